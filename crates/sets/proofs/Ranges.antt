-- Registers by sets, and memory words by ranges: two slots' places meet where either does.
use mathlib.Core.Path.{◌≡◌, refl, sym, ap₂, ◌∙◌}
use mathlib.Core.List.{List, [], ◌∷◌, ◌++◌}
use mathlib.Core.Bool.{false, ◌||◌, or-false}
use Prim.Native.Nat.{ℕ, zero, suc, ◌<◌}
use native.Mathlib.Omega.{arith}
use borrow.Author.Tests.{ne_eqb}
use Rattle.slots.specs.Lists.{some, All}
use Rattle.slots.specs.Places.{Memory, Place, place, file_number, same_place, meet, places}
use Rattle.sets.specs.PlaceSets.{size, Fits, meets, set_of}
use Rattle.sets.specs.Ranges.{range, overlap}
use Rattle.sets.proofs.PlaceLists.{meet_left, meet_right, places_meet}
use Rattle.sets.proofs.PlaceSets.{meet_is}

pub range_meet : (a n b m : ℕ) → meet (places Memory a n) (places Memory b m) ≡ overlap (range a n) (range b m)
range_meet a n b m = places_meet Memory Memory a n b m

-- a register is no memory word
no_memory : (p : Place) → Fits p → file_number p.file ≡ file_number Memory → ⊥
no_memory p h e = let k : p.index < size (file_number Memory) = rw e at h in omega arith

registers_memory : (xs : List Place) (b m : ℕ) → All Fits xs → meet xs (places Memory b m) ≡ false
registers_memory [] b m h = refl
registers_memory (x ∷ xs) b m h = ap₂ ◌||◌ (go b m) (registers_memory xs b m h.1)
  where
    go : (b m : ℕ) → some (same_place x) (places Memory b m) ≡ false
    go b zero = refl
    go b (suc m) = rw (ne_eqb (file_number x.file) (file_number Memory) (no_memory x h.0)) (go (suc b) m)

memory_registers : (a n : ℕ) (ys : List Place) → All Fits ys → meet (places Memory a n) ys ≡ false
memory_registers a zero ys h = refl
memory_registers a (suc n) ys h = ap₂ ◌||◌ (go ys h) (memory_registers (suc a) n ys h)
  where
    go : (ys : List Place) → All Fits ys → some (same_place (place Memory a)) ys ≡ false
    go [] h = refl
    go (y ∷ ys) h = rw (ne_eqb (file_number Memory) (file_number y.file) (λ e. no_memory y h.0 (sym e))) (go ys h.1)

-- registers and memory words side by side, against others
pub reach_meet : (xs ys : List Place) (a n b m : ℕ) → All Fits xs → All Fits ys
    → meet (xs ++ places Memory a n) (ys ++ places Memory b m)
    ≡ (meets (set_of xs) (set_of ys) || overlap (range a n) (range b m))
reach_meet xs ys a n b m h k =
    meet_left xs (places Memory a n) (ys ++ places Memory b m)
    ∙ rw (
      meet_right xs ys (places Memory b m),
      meet_right (places Memory a n) ys (places Memory b m),
      registers_memory xs b m h,
      memory_registers a n ys k,
      meet_is xs ys h k,
      range_meet a n b m,
      or-false (meets (set_of xs) (set_of ys)),
    )

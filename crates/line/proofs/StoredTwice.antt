-- Rule 7: the registers that a line's slots store.
use mathlib.Core.Path.{◌≡◌, refl, sym, ap, ap₂, ◌∙◌}
use mathlib.Core.List.{List, [], ◌∷◌, ◌++◌, append_assoc, append-nil}
use mathlib.Core.Bool.{Bool, true, false, ◌||◌, or_assoc}
use lib.Dec.{eqb}
use borrow.Author.Tests.{eqb-false}
use Rattle.slots.specs.Lists.{some, twice, All}
use Rattle.slots.specs.Places.{Place, same_place, meet}
use Rattle.slots.specs.Stores.{stored, loads_pair, pair_loaded, stored_by}
use Rattle.slots.specs.declared.slot.Slot.{Slot}
use Rattle.slots.proofs.Tests.{neither_left, neither_right, or_left, or_right}
use Rattle.slots.proofs.Valid.{Valid}
use Rattle.sets.specs.PlaceSets.{Fits}
use Rattle.sets.specs.StoredSets.{stored_twice}
use Rattle.sets.proofs.PlaceLists.{meet_right, meet_none, twice_append, all_append}
use Rattle.sets.proofs.PlaceSets.{meet_is}
use Rattle.sets.proofs.StoredSets.{stored_fits, stored_set_lem, stored_twice_lem}
use Rattle.line.specs.Rules.{unit_of, rule5, rule7}
use Rattle.line.specs.Pass.{stores_again}
use Rattle.line.proofs.SlotsSeen.{stored_loaded, stored_in_lem, breaks7}
use Rattle.line.proofs.Units.{twice_more}
use Rattle.line.proofs.ThrPairs.{Sees, sees_load, stored_in, pair_same}

-- ---- a line stores a register twice as if every THR pair were loaded

abbrev same_unit : Slot → Slot → Bool
same_unit x y = eqb (unit_of x) (unit_of y)

module _ (line : List Slot) where
  -- what is known of a slot of the line
  abbrev Known : Slot → Type 0
  Known x = Valid x × Sees line x

  meet_same : (x : Slot) (ys : List Slot) → Known x → All Known ys → some (same_unit x) ys ≡ false
      → meet (stored_in line x) (stored_by line ys) ≡ meet (stored true x) (stored_loaded ys)
  meet_same x [] k a e = meet_none (stored_in line x) ∙ sym (meet_none (stored true x))
  meet_same x (y ∷ ys) k a e =
      meet_right (stored_in line x) (stored_in line y) (stored_by line ys)
      ∙ ap₂ ◌||◌
      (pair_same (pair_loaded line x) (pair_loaded line y) x y k.0 a.0.0 (sees_load line y x a.0.1)
      (sees_load line x y k.1)
      (eqb-false (unit_of x) (unit_of y) (neither_left (same_unit x y) (some (same_unit x) ys) e)))
      (meet_same x ys k a.1 (neither_right (same_unit x y) (some (same_unit x) ys) e))
      ∙ sym (meet_right (stored true x) (stored true y) (stored_loaded ys))

  twice_same : (xs : List Slot) → All Known xs → rule5 xs ≡ false
      → twice same_place (stored_by line xs) ≡ twice same_place (stored_loaded xs)
  twice_same [] a e = refl
  twice_same (x ∷ xs) a e =
      twice_append (stored_in line x) (stored_by line xs)
      ∙ ap₂ ◌||◌
      (ap₂ ◌||◌ (stored_twice_lem (pair_loaded line x) x a.0.0 ∙ sym (stored_twice_lem true x a.0.0))
      (meet_same x xs a.0 a.1 (neither_left (some (same_unit x) xs) (rule5 xs) e)))
      (twice_same xs a.1 (neither_right (some (same_unit x) xs) (rule5 xs) e))
      ∙ sym (twice_append (stored true x) (stored_loaded xs))

all_map : (P Q : Slot → Type 0) (xs : List Slot) → ((x : Slot) → P x → Q x) → All P xs → All Q xs
all_map P Q [] f a = tt
all_map P Q (x ∷ xs) f a = (f x a.0, all_map P Q xs f a.1)

all_both : (P Q : Slot → Type 0) (xs : List Slot) → All P xs → All Q xs → All (λ x. P x × Q x) xs
all_both P Q [] a b = tt
all_both P Q (x ∷ xs) a b = ((a.0, b.0), all_both P Q xs a.1 b.1)

-- a line sees each of its slots
pub all_seen : (xs : List Slot) → All (Sees xs) xs
all_seen [] = tt
all_seen (x ∷ xs) = (
  λ b p e. or_left (some (loads_pair b p) xs) e,
  all_map (Sees xs) (Sees (x ∷ xs)) xs (λ y s b p e. or_right (loads_pair b p x) (s b p e)) (all_seen xs),
)

seven : (xs : List Slot) → All Valid xs → rule5 xs ≡ false → rule7 xs ≡ twice same_place (stored_loaded xs)
seven xs v e = twice_same xs xs (all_both Valid (Sees xs) xs v (all_seen xs)) e

-- ---- one more slot

loaded_more : (ps : List Slot) (x : Slot) → stored_loaded (ps ++ (x ∷ [])) ≡ stored_loaded ps ++ stored true x
loaded_more [] x = append-nil (stored true x)
loaded_more (y ∷ ps) x =
    ap (λ (r : List Place). stored true y ++ r) (loaded_more ps x)
    ∙ sym (append_assoc (stored true y) (stored_loaded ps) (stored true x))

loaded_fits : (xs : List Slot) → All Valid xs → All Fits (stored_loaded xs)
loaded_fits [] v = tt
loaded_fits (x ∷ xs) v = all_append (stored true x) (stored_loaded xs) (stored_fits true x v.0) (loaded_fits xs v.1)

all_split : (P : Slot → Type 0) (ps : List Slot) (x : Slot) → All P (ps ++ (x ∷ [])) → All P ps × P x
all_split P [] x a = (tt, a.0)
all_split P (y ∷ ps) x a = let h = all_split P ps x a.1 in ((a.0, h.0), h.1)

pub seven_more : (ps : List Slot) (x : Slot) → All Valid (ps ++ (x ∷ [])) → rule5 (ps ++ (x ∷ [])) ≡ false
    → rule7 (ps ++ (x ∷ [])) ≡ (rule7 ps || breaks7 ps x)
unfolding stores_again
seven_more ps x v e =
    let valid = all_split Valid ps x v in
    let apart : rule5 ps ≡ false = neither_left (rule5 ps) (some (λ y. same_unit y x) ps) (sym (twice_more same_unit ps x) ∙ e) in
    seven (ps ++ (x ∷ [])) v e
    ∙ rw (
      loaded_more ps x,
      twice_append (stored_loaded ps) (stored true x),
      meet_is (stored_loaded ps) (stored true x) (loaded_fits ps valid.0) (stored_fits true x valid.1),
      stored_set_lem true x valid.1,
      stored_twice_lem true x valid.1,
      ← stored_in_lem ps valid.0,
      ← seven ps valid.0 apart,
    )
    (or_assoc (rule7 ps) _ (stored_twice x))

-- A footprint that covers a list of places, and the parts that its set is made of.
use mathlib.Core.Path.{◌≡◌, refl, sym, ◌∙◌}
use mathlib.Core.Bool.{Bool, true, false, not}
use mathlib.Core.List.{List, [], ◌++◌, append-nil}
use Prim.Native.Nat.{ℕ, ◌+◌, ◌*◌, ◌%◌, ◌^◌, ◌≤◌, ◌<◌}
use native.Mathlib.Nat.{zero-mul}
use native.Mathlib.Omega.{arith}
use Rattle.bits.specs.Pick.{pick}
use Rattle.slots.specs.Lists.{All}
use Rattle.slots.specs.Places.{File, R, TR, Flags, Memory, Place, meet, places, in_r, in_tr, in_ialu, in_flags}
use Rattle.machine.specs.Fetches.{when}
use Rattle.sets.specs.PlaceSets.{word_of, bit_from, Fits, words, nothing, in_word, joined, set_of, bits_at, side_bits}
use Rattle.sets.specs.StoredSets.{index_bits}
use Rattle.sets.specs.Ranges.{range}
use Rattle.sets.specs.declared.place_set.PlaceSet.{PlaceSet}
use Rattle.sets.proofs.PlaceLists.{all_append}
use Rattle.sets.proofs.PlaceSets.{set_append, no_bits}
use Rattle.sets.proofs.StoredSets.{Inside, inside, inside_fits, inside_set, Told, index_told}
use Rattle.sets.proofs.Ranges.{reach_meet}
use Rattle.footprints.specs.Footprints.{registers, flag_bits, footprints_meet}
use Rattle.footprints.specs.declared.footprint.Footprint.{Footprint}

-- ---- registers and flag groups, and their set

pub record Of (ps : List Place) (s : PlaceSet) : Type 0 where
  pub fits : All Fits ps
  pub set_is : set_of ps ≡ s

pub told_of : {ps : List Place} {s : PlaceSet} {t : Bool} → Told ps s t → Of ps s
told_of o = record { fits = o.fits; set_is = o.set_is }

pub and_of : {ps qs : List Place} {s t : PlaceSet} → Of ps s → Of qs t → Of (ps ++ qs) (joined s t)
and_of {ps} {qs} o u =
    record {
      fits = all_append ps qs o.fits u.fits;
      set_is = set_append ps qs ∙ rw (o.set_is, u.set_is);
    }

pub is_of : {ps : List Place} {s t : PlaceSet} → Of ps s → s ≡ t → Of ps t
is_of o e = record { fits = o.fits; set_is = o.set_is ∙ e }

pub none_of : Of [] nothing
unfolding set_of
none_of = record { fits = tt; set_is = refl }

-- m: the first bit as the code has it
pub at : (f : File) (i m n : ℕ) → bit_from f + i ≡ m % 64 → Inside f i n → Of (places f i n) (in_word (word_of f) (bits_at m n))
at f i m n e h = record { fits = inside_fits f i n h; set_is = inside_set f i m n e h }

no_bits_at : (m : ℕ) → bits_at m 0 ≡ 0
unfolding bits_at
no_bits_at m = rw (zero-mul (2 ^ (m % 64)))

-- one place under a condition
pub at_if : (c : Bool) (f : File) (i m : ℕ) → (c ≡ true → (bit_from f + i ≡ m % 64) × Inside f i 1)
    → Of (when c (places f i 1)) (in_word (word_of f) (bits_at m (pick c 1 0)))
at_if true f i m h = at f i m 1 (h refl).0 (h refl).1
at_if false f i m h = rw (no_bits_at m, no_bits (word_of f)) none_of

-- registers of a block
module _ (b i : ℕ) (hb : b < 2) (hi : i < 32) where
  pub r_of : (n : ℕ) → n ≤ 4 → i + n ≤ 32 → Of (in_r b i n) (words (side_bits b i n) 0 0 0)
  r_of n h k = at R (32 * b + i) (32 * b + i) n (omega arith) (inside R (32 * b + i) n h (omega arith))

  pub tr_of : (n : ℕ) → n ≤ 4 → i + n ≤ 32 → Of (in_tr b i n) (words 0 (side_bits b i n) 0 0)
  tr_of n h k = at TR (32 * b + i) (32 * b + i) n (omega arith) (inside TR (32 * b + i) n h (omega arith))

  pub r_if : (c : Bool) → Of (when c (in_r b i 1)) (words (side_bits b i (pick c 1 0)) 0 0 0)
  r_if c = at_if c R (32 * b + i) (32 * b + i) (λ _. (omega arith, inside R (32 * b + i) 1 (omega arith) (omega arith)))

  pub tr_if : (c : Bool) → Of (when c (in_tr b i 1)) (words 0 (side_bits b i (pick c 1 0)) 0 0)
  tr_if c = at_if c TR (32 * b + i) (32 * b + i) (λ _. (omega arith, inside TR (32 * b + i) 1 (omega arith) (omega arith)))

-- a register of an IALU, under a condition: 31 is no place
pub ialu_if : (c : Bool) (ialu i : ℕ) → ialu < 2 → (c ≡ true → i < 32)
    → Of (when c (in_ialu ialu i)) (words 0 0 (index_bits ialu i (not c)) 0)
unfolding index_bits
ialu_if true ialu i h k = told_of (index_told ialu i false h (k refl))
ialu_if false ialu i h k = is_of none_of (sym (rw (no_bits_at (32 * ialu + i))))

-- the flag group of a unit
pub flags_of : (u b : ℕ) → u + b < 8 → Of (in_flags u b) (words 0 0 0 (flag_bits u b))
flags_of u b h = at Flags (u + b) (bit_from Flags + (u + b)) 1 (omega arith) (inside Flags (u + b) 1 (omega arith) (omega arith))

-- ---- all places of a footprint: memory words after registers

pub record Covers (x : Footprint) (ps : List Place) : Type 0 where
  pub regs : List Place
  pub low : ℕ
  pub count : ℕ
  pub regs_of : Of regs x.set
  pub words_are : x.words ≡ range low count
  pub whole : ps ≡ regs ++ places Memory low count

pub registers_cover : {regs ps : List Place} {s : PlaceSet} → Of regs s → ps ≡ regs → Covers (registers s) ps
registers_cover {regs} o e =
    record { regs = regs; low = 0; count = 0; regs_of = o; words_are = refl; whole = e ∙ sym (append-nil regs) }

pub covers_meet : {x y : Footprint} {ps qs : List Place} → Covers x ps → Covers y qs → footprints_meet x y ≡ meet ps qs
unfolding footprints_meet
covers_meet o u =
    rw (
      ← o.regs_of.set_is,
      ← u.regs_of.set_is,
      o.words_are,
      u.words_are,
      o.whole,
      u.whole,
    )
    (sym (reach_meet o.regs u.regs o.low o.count u.low u.count o.regs_of.fits u.regs_of.fits))

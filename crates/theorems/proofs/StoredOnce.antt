-- In a line that the checker passes and the running state does not refuse, no place is stored by two slots: no register by
-- rule 7, no flag group by rule 5, no memory word by rule 10. A slot whose condition fails stores none; a shift that a failing load
-- does not hold back meets no other store, since the load stores nothing then.
use mathlib.Core.Path.{◌≡◌, refl, sym, ◌∙◌}
use mathlib.Core.Bool.{Bool, true, false, ◌&&◌, ◌||◌, and-false, false≢true}
use mathlib.Core.List.{List, [], ◌∷◌, ◌++◌}
use Prim.Native.Nat.{ℕ, ◌+◌}
use native.Mathlib.Omega.{arith}
use lib.ListN.{length}
use lib.Dec.{eqb}
use borrow.Author.Tests.{eqb-true, ne_eqb}
use Rattle.bits.specs.Pick.{pick}
use Rattle.slots.specs.Lists.{some, twice, All, Pairwise}
use Rattle.slots.specs.Places.{Place, file_number, same_place, meet}
use Rattle.slots.specs.Conditionals.{unconditional}
use Rattle.slots.specs.declared.conditional_slot.LineSlot.{LineSlot}
use Rattle.slots.specs.Stores.{stored, loads_pair, pair_loaded, stored_by, load_of, slot_in}
use Rattle.bits.specs.Ops.{is_store}
use Rattle.slots.specs.declared.slot.Slot.{Slot}
use Rattle.slots.specs.declared.slot.Slot.TheVariants.{Alu, Shifter, Trellis, Tmax, Despread, Transfer}
use Rattle.slots.specs.declared.slot.Slot.TheVariants.{Arith, Buffer, Access, DabLoad}
use Rattle.slots.specs.declared.conditional_slot.Conditional.{Conditional}
use Rattle.slots.proofs.Tests.{and_left, and_right, neither_left, neither_right}
use Rattle.slots.proofs.Valid.{Valid}
use Rattle.line.specs.Rules.{unit_of, reads_verdict}
use Rattle.line.specs.Lines.{sized, read_line}
use Rattle.sets.proofs.PlaceLists.{meet_left, meet_right, meet_none, twice_append}
use Rattle.line.proofs.ThrPairs.{loads_for, shifts_pair, pair_same, Sees, sees_load}
use Rattle.line.proofs.StoredTwice.{all_seen}
use Rattle.line.proofs.Accepted.{Accepted, accepted_line}
use Rattle.machine.specs.Machine.{Machine}
use Rattle.machine.specs.Fetches.{values, targets}
use Rattle.instructions.specs.Storing.{store_of, words_stored}
use Rattle.conditional.specs.LineSlots.{fetch_in, store_in}
use Rattle.conditional.specs.declared.line_slot.Fetched.{Fetched}
use Rattle.refusals.specs.Refusals.{fetch_slot, fetch_each, fetch_line, live_stored, rule10}
use Rattle.execution.specs.PlainLine.{line_of, refusal_of}
use Rattle.execution.proofs.NotRefused.{line_slots, not_refused}
use Rattle.execution.proofs.Registers.{InRegisters, in_span, stored_registers}
use Rattle.instructions.proofs.StoredPlaces.{flag_group, stored_places}
use Rattle.conditional.proofs.LineSlots.{is_live, is_loaded, held_live, held_on, stored_on, stored_off}

-- ---- lists with no place in common

one_clear : (P Q : Place → Type 0) → ((p q : Place) → P p → Q q → same_place p q ≡ false) → (p : Place) (qs : List Place)
    → P p → All Q qs → some (same_place p) qs ≡ false
one_clear P Q told p [] h b = refl
one_clear P Q told p (q ∷ qs) h b = rw (told p q h b.0) (one_clear P Q told p qs h b.1)

-- no place of the one property is a place of the other
clear : (P Q : Place → Type 0) → ((p q : Place) → P p → Q q → same_place p q ≡ false) → (ps qs : List Place)
    → All P ps → All Q qs → meet ps qs ≡ false
clear P Q told [] qs a b = refl
clear P Q told (p ∷ ps) qs a b = rw (one_clear P Q told p qs a.0 b) (clear P Q told ps qs a.1 b)

-- the flag groups have file number 7, and memory words 8; registers are below
abbrev InFlags : Place → Type 0
InFlags p = file_number p.file ≡ 7

abbrev InMemory : Place → Type 0
InMemory p = file_number p.file ≡ 8

files_differ : (p q : Place) → (file_number p.file ≡ file_number q.file → ⊥) → same_place p q ≡ false
files_differ p q h = rw (ne_eqb (file_number p.file) (file_number q.file) h)

indices_differ : (p q : Place) → (p.index ≡ q.index → ⊥) → same_place p q ≡ false
indices_differ p q h = rw (ne_eqb p.index q.index h) (and-false (eqb (file_number p.file) (file_number q.file)))

left_clear : (xs ys zs : List Place) → meet xs zs ≡ false → meet ys zs ≡ false → meet (xs ++ ys) zs ≡ false
left_clear xs ys zs h k = meet_left xs ys zs ∙ rw (h, k)

right_clear : (xs ys zs : List Place) → meet xs ys ≡ false → meet xs zs ≡ false → meet xs (ys ++ zs) ≡ false
right_clear xs ys zs h k = meet_right xs ys zs ∙ rw (h, k)

-- ---- the three parts of a slot's store

-- the flag group of a slot has the number of its unit less 1
abbrev FlagsOf : Slot → Place → Type 0
FlagsOf x p = InFlags p × (p.index + 1 ≡ unit_of x)

group_flags : (x : Slot) → All (FlagsOf x) (flag_group x)
group_flags (Alu b op t f s) = ((refl, omega arith), tt)
group_flags (Shifter b op t f s) = ((refl, omega arith), tt)
group_flags (Trellis b op t f s q) = ((refl, omega arith), tt)
group_flags (Tmax b op t f s) = ((refl, omega arith), tt)
group_flags (Despread b op t f p o) = ((refl, omega arith), tt)
group_flags (Transfer b op t f) = tt
group_flags (Arith ialu op t f s i) = ((refl, omega arith), tt)
group_flags (Buffer ialu op t f) = tt
group_flags (Access ialu op w file n f s i) = tt
group_flags (DabLoad ialu b t f i) = tt

stored_words : (x : Slot) (v : List ℕ) → All InMemory (words_stored x v)
stored_words (Alu b op t f s) v = tt
stored_words (Shifter b op t f s) v = tt
stored_words (Trellis b op t f s q) v = tt
stored_words (Tmax b op t f s) v = tt
stored_words (Despread b op t f p o) v = tt
stored_words (Transfer b op t f) v = tt
stored_words (Arith ialu op t f s i) v = tt
stored_words (Buffer ialu op t f) v = tt
stored_words (Access ialu op w file n f s i) v = in_span (λ a. a ≡ 8) _ _ (pick (is_store op) w 0) refl
stored_words (DabLoad ialu b t f i) v = tt

-- ---- two slots on different units

module _ (l m : Bool) (x y : Slot) (v u : List ℕ) where
  registers_flags : meet (stored l x) (flag_group y) ≡ false
  registers_flags =
      clear InRegisters (FlagsOf y) (λ p q h g. files_differ p q (λ e. h.0 (e ∙ g.0))) (stored l x) (flag_group y)
      (stored_registers l x) (group_flags y)

  registers_words : meet (stored l x) (words_stored y u) ≡ false
  registers_words =
      clear InRegisters InMemory (λ p q h g. files_differ p q (λ e. h.1 (e ∙ g))) (stored l x) (words_stored y u)
      (stored_registers l x) (stored_words y u)

  flags_registers : meet (flag_group x) (stored m y) ≡ false
  flags_registers =
      clear (FlagsOf x) InRegisters (λ p q h g. files_differ p q (λ e. g.0 (sym e ∙ h.0))) (flag_group x) (stored m y)
      (group_flags x) (stored_registers m y)

  flags_flags : (unit_of x ≡ unit_of y → ⊥) → meet (flag_group x) (flag_group y) ≡ false
  flags_flags d =
      clear (FlagsOf x) (FlagsOf y) (λ p q h g. indices_differ p q (λ e. d (omega arith))) (flag_group x) (flag_group y)
      (group_flags x) (group_flags y)

  flags_words : meet (flag_group x) (words_stored y u) ≡ false
  flags_words =
      clear (FlagsOf x) InMemory (λ p q h g. files_differ p q (λ e. omega arith)) (flag_group x) (words_stored y u)
      (group_flags x) (stored_words y u)

  words_registers : meet (words_stored x v) (stored m y) ≡ false
  words_registers =
      clear InMemory InRegisters (λ p q h g. files_differ p q (λ e. g.1 (sym e ∙ h))) (words_stored x v) (stored m y)
      (stored_words x v) (stored_registers m y)

  words_flags : meet (words_stored x v) (flag_group y) ≡ false
  words_flags =
      clear InMemory (FlagsOf y) (λ p q h g. files_differ p q (λ e. omega arith)) (words_stored x v) (flag_group y)
      (stored_words x v) (group_flags y)

  -- the registers and the words are those of the rules
  stores_clear : Valid x → Valid y → (unit_of x ≡ unit_of y → ⊥) → meet (stored l x) (stored m y) ≡ false
      → meet (words_stored x v) (words_stored y u) ≡ false → meet (targets (store_of l x v)) (targets (store_of m y u)) ≡ false
  stores_clear a b d r w =
      rw (stored_places l x v a, stored_places m y u b)
      (left_clear (stored l x) (flag_group x ++ words_stored x v) of_y
      (right_clear (stored l x) (stored m y) (flag_group y ++ words_stored y u) r
      (right_clear (stored l x) (flag_group y) (words_stored y u) registers_flags registers_words))
      (left_clear (flag_group x) (words_stored x v) of_y
      (right_clear (flag_group x) (stored m y) (flag_group y ++ words_stored y u) flags_registers
      (right_clear (flag_group x) (flag_group y) (words_stored y u) (flags_flags d) flags_words))
      (right_clear (words_stored x v) (stored m y) (flag_group y ++ words_stored y u) words_registers
      (right_clear (words_stored x v) (flag_group y) (words_stored y u) words_flags w))))
    where
      of_y : List Place
      of_y = stored m y ++ (flag_group y ++ words_stored y u)

-- ---- the slots of a line

-- two slots that store no place in common
abbrev pub StoresApart : Fetched → Fetched → Type 0
StoresApart x y = meet (targets (store_in x.slot.slot x.held)) (targets (store_in y.slot.slot y.held)) ≡ false

-- a load of a THR pair is on the transfer unit of its block
loads_unit : (b p : ℕ) (x : Slot) → loads_pair b p x ≡ true → unit_of x ≡ 9 + b
loads_unit b p (Alu c op t f s) e = absurd (false≢true e)
loads_unit b p (Shifter c op t f s) e = absurd (false≢true e)
loads_unit b p (Trellis c op t f s q) e = absurd (false≢true e)
loads_unit b p (Tmax c op t f s) e = absurd (false≢true e)
loads_unit b p (Despread c op t f q o) e = absurd (false≢true e)
loads_unit b p (Transfer c op t f) e =
    let same = eqb-true b c (and_right (eqb op 2) (eqb b c) (and_left (eqb op 2 && eqb b c) (eqb p t) e)) in omega arith
loads_unit b p (Arith ialu op t f s i) e = absurd (false≢true e)
loads_unit b p (Buffer ialu op t f) e = absurd (false≢true e)
loads_unit b p (Access ialu op w file n f s i) e = absurd (false≢true e)
loads_unit b p (DabLoad ialu c t f i) e = absurd (false≢true e)

-- the load that a line finds for a pair is the one that it has
abbrev Finds : List Conditional → Conditional → Type 0
Finds line x = (b p : ℕ) → loads_pair b p x.slot ≡ true → load_of b p line ≡ x.condition

abbrev OtherUnit : Slot → Slot → Type 0
OtherUnit x y = unit_of x ≡ unit_of y → ⊥

-- slots after x find their loads as they did, since x is on another unit
finds_after : (x : Conditional) (line ys : List Conditional) → All (OtherUnit x.slot) (unconditional ys) → All (Finds line) ys
    → All (Finds (x ∷ line)) ys
finds_after x line [] d a = tt
finds_after x line (y ∷ ys) d a = (λ b p e. go b p e (loads_pair b p x.slot) refl, finds_after x line ys d.1 a.1)
  where
    go : (b p : ℕ) → loads_pair b p y.slot ≡ true → (t : Bool) → loads_pair b p x.slot ≡ t
        → pick t x.condition (load_of b p line) ≡ y.condition
    go b p e true q = absurd (d.0 (loads_unit b p x.slot q ∙ sym (loads_unit b p y.slot e)))
    go b p e false q = a.0 b p e

all_find : (xs : List Conditional) → Pairwise OtherUnit (unconditional xs) → All (Finds xs) xs
all_find [] d = tt
all_find (x ∷ xs) d = (λ b p e. rw e, finds_after x xs xs d.0 (all_find xs d.1))

module _ (line : List Conditional) (m : Machine) where
  abbrev places_of : Conditional → List Place
  places_of x = stored (pair_loaded (unconditional line) x.slot) x.slot

  -- the pair that y shifts is loaded where a live slot loads it
  held_back : (x y : Conditional) → Finds line x → is_live m (slot_in line x) ≡ true → loads_for x.slot y.slot ≡ true
      → is_loaded m (slot_in line y) ≡ true
  held_back x y finds on e = shifts_pair x.slot y.slot e (λ b op t f p o q h. rw (q, finds b p h) on)

  -- what is known of a slot of the line
  record Known (x : Conditional) : Type 0 where
    pub valid : Valid x.slot
    pub seen : Sees (unconditional line) x.slot
    pub finds : Finds line x

  pair_apart : (x y : Conditional) → Known x → Known y → meet (places_of x) (places_of y) ≡ false
      → OtherUnit x.slot y.slot → meet (live_stored (fetch_slot line m x)) (live_stored (fetch_slot line m y)) ≡ false
      → StoresApart (fetch_slot line m x) (fetch_slot line m y)
  unfolding targets
  pair_apart x y k h r d w = go (is_live m (slot_in line x)) (is_live m (slot_in line y)) refl refl
    where
      u : LineSlot
      u = slot_in line x

      v : LineSlot
      v = slot_in line y

      -- as if every THR pair were loaded, and as the loads that are live have it
      registers : is_live m u ≡ true → is_live m v ≡ true
          → meet (stored (is_loaded m u) x.slot) (stored (is_loaded m v) y.slot) ≡ false
      registers p q =
          pair_same (is_loaded m u) (is_loaded m v) x.slot y.slot k.valid h.valid (held_back y x h.finds q)
          (held_back x y k.finds p) d
          ∙ sym (pair_same _ _ x.slot y.slot k.valid h.valid
          (sees_load (unconditional line) y.slot x.slot h.seen)
          (sees_load (unconditional line) x.slot y.slot k.seen) d)
          ∙ r

      go : (a b : Bool) → is_live m u ≡ a → is_live m v ≡ b
          → meet (targets (store_in u.slot (values (fetch_in u) m))) (targets (store_in v.slot (values (fetch_in v) m))) ≡ false
      go true true p q =
          rw (stored_on m u p, stored_on m v q)
          (stores_clear (is_loaded m u) (is_loaded m v) x.slot y.slot (held_live m u) (held_live m v) k.valid h.valid d
          (registers p q) (rw (held_on m u p, held_on m v q) at w))
      go true false p q = rw (stored_off m v q) (meet_none (targets (store_in u.slot (values (fetch_in u) m))))
      go false b p q = rw (stored_off m u p)

  -- a slot and those after it
  later_apart : (x : Conditional) (ys : List Conditional) → Known x → All Known ys
      → meet (places_of x) (stored_by (unconditional line) (unconditional ys)) ≡ false
      → All (OtherUnit x.slot) (unconditional ys)
      → some (λ y. meet (live_stored (fetch_slot line m x)) (live_stored y)) (fetch_each line m ys) ≡ false
      → All (StoresApart (fetch_slot line m x)) (fetch_each line m ys)
  later_apart x [] k a r d w = tt
  later_apart x (y ∷ ys) k a r d w =
      let r2 = sym (meet_right (places_of x) (places_of y) (stored_by (unconditional line) (unconditional ys))) ∙ r in
      let word = meet (live_stored (fetch_slot line m x)) (live_stored (fetch_slot line m y)) in (
        pair_apart x y k a.0 (neither_left (meet (places_of x) (places_of y)) _ r2) d.0 (neither_left word _ w),
        later_apart x ys k a.1 (neither_right (meet (places_of x) (places_of y)) _ r2) d.1 (neither_right word _ w),
      )

  pairs_apart : (xs : List Conditional) → All Known xs
      → twice same_place (stored_by (unconditional line) (unconditional xs)) ≡ false → Pairwise OtherUnit (unconditional xs)
      → rule10 (fetch_each line m xs) ≡ false → Pairwise StoresApart (fetch_each line m xs)
  pairs_apart [] a r d w = tt
  pairs_apart (x ∷ xs) a r d w =
      let rest = stored_by (unconditional line) (unconditional xs) in
      let r2 = sym (twice_append (places_of x) rest) ∙ r in
      let own = twice same_place (places_of x) in
      let met = meet (places_of x) rest in
      let words = some (λ y. meet (live_stored (fetch_slot line m x)) (live_stored y)) (fetch_each line m xs) in (
        later_apart x xs a.0 a.1 (neither_right own met (neither_left (own || met) _ r2)) d.0 (neither_left words _ w),
        pairs_apart xs a.1 (neither_right (own || met) _ r2) d.1 (neither_right words _ w),
      )

  all_known : (xs : List Conditional) → All Valid (unconditional xs) → All (Sees (unconditional line)) (unconditional xs)
      → All (Finds line) xs → All Known xs
  all_known [] v s f = tt
  all_known (x ∷ xs) v s f =
      (record { valid = v.0; seen = s.0; finds = f.0 }, all_known xs v.1 s.1 f.1)

pub line_stored_once : (w : List ℕ) → Accepted w → (m : Machine) → (refusal_of (line_of w) m).code ≡ 0
    → Pairwise StoresApart (fetch_line (line_of w) m)
line_stored_once w a m f =
    let same = line_slots w a in
    let line = line_of w in
    let units = rw same at a.units in
    pairs_apart line m line
    (all_known line m line (rw same at a.valid) (all_seen (unconditional line)) (all_find line units))
    (rw same at a.stored_once) units (not_refused line m f).words_once

pub stored_once : (w : List ℕ) → sized (length w) ≡ true → (reads_verdict (read_line w)).code ≡ 0 → (m : Machine)
    → (refusal_of (line_of w) m).code ≡ 0 → Pairwise StoresApart (fetch_line (line_of w) m)
stored_once w s e m f = line_stored_once w (accepted_line w s e) m f

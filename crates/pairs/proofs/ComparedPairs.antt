-- Rule 5 as it is counted: the pairs of units that the code compares are the pairs of the line's slots.
use mathlib.Core.Path.{◌≡◌, refl, sym, ap, ap₂, ◌∙◌}
use mathlib.Core.List.{List, [], ◌∷◌, map}
use mathlib.Core.Bool.{Bool, true, false, true≢false}
use Prim.Native.Nat.{ℕ, zero, suc, ◌*◌, ◌≤◌}
use native.Mathlib.Omega.{arith}
use lib.ListN.{length, take, drop, get_or}
use lib.Seq.{get_or-take, get_or-drop}
use Rattle.std.specs.Prelude.{Result, Ok, Err}
use Rattle.bits.specs.Pick.{pick}
use Rattle.slots.specs.Slots.{field_words}
use Rattle.slots.specs.Conditionals.{slot_words, read_slot, unconditional}
use Rattle.slots.specs.declared.slot.Slot.{Slot}
use Rattle.slots.specs.declared.conditional_slot.Conditional.{Conditional}
use Rattle.slots.specs.declared.slot.SlotRefusal.{SlotRefusal}
use Rattle.slots.specs.declared.slot.SlotRefusal.TheVariants.{BadFields, BadCondition, BadModifier}
use Rattle.slots.proofs.ConditionalReads.{slot_found}
use Rattle.slots.proofs.SlotWords.{read_words_lem}
use Rattle.line.specs.Rules.{unit_of, rule3, rule15, rule16, slots_of}
use Rattle.pairs.specs.Pairs.{up_to_first, slot_pairs, on_one_unit, pairs_compared}
use Rattle.line.specs.Lines.{reads}
use Rattle.pairs.specs.Units.{units_from, same_unit, compared_units}

-- ---- the units that the code reads are those of the slots

units_on : (w : List ℕ) (s n : ℕ) → units_from w (suc s) n ≡ units_from (drop slot_words w) s n
units_on w s zero = refl
units_on w s (suc n) =
    ap₂ (λ (u : ℕ) (us : List ℕ). u ∷ us)
    (ap (λ (i : ℕ). get_or w i 0) (omega arith) ∙ sym (get_or-drop slot_words w (slot_words * s) 0)) (units_on w (suc s) n)

-- a slot's unit is its first word
unit_first : (w : List ℕ) (x : Conditional) → read_slot (take slot_words w) ≡ Ok x → unit_of x.slot ≡ get_or w 0 0
unit_first w x e =
    ap (λ (u : List ℕ). get_or u 0 0)
    (read_words_lem (take field_words (take slot_words w)) x.slot (slot_found (take slot_words w) x e).fields)
    ∙ get_or-take field_words (take slot_words w) 0 0 (omega arith)
    ∙ get_or-take slot_words w 0 0 (omega arith)

pub units_read : (n : ℕ) (w : List ℕ) → rule3 (reads n w) ≡ false → rule15 (reads n w) ≡ false → rule16 (reads n w) ≡ false
    → units_from w 0 n ≡ map unit_of (unconditional (slots_of (reads n w)))
unfolding reads
units_read zero w e f g = refl
units_read (suc n) w e f g = go (read_slot (take slot_words w)) refl e f g (units_read n (drop slot_words w))
  where
    rest : List (Result Conditional SlotRefusal)
    rest = reads n (drop slot_words w)

    go : (r : Result Conditional SlotRefusal) → read_slot (take slot_words w) ≡ r → rule3 (r ∷ rest) ≡ false
        → rule15 (r ∷ rest) ≡ false → rule16 (r ∷ rest) ≡ false
        → (rule3 rest ≡ false → rule15 rest ≡ false → rule16 rest ≡ false
        → units_from (drop slot_words w) 0 n ≡ map unit_of (unconditional (slots_of rest)))
        → units_from w 0 (suc n) ≡ map unit_of (unconditional (slots_of (r ∷ rest)))
    go (Ok x) q e f g k =
        ap₂ (λ (u : ℕ) (us : List ℕ). u ∷ us) (sym (unit_first w x q)) (units_on w 0 n ∙ k e f g)
    go (Err BadFields) q e f g k = absurd (true≢false e)
    go (Err BadCondition) q e f g k = absurd (true≢false f)
    go (Err BadModifier) q e f g k = absurd (true≢false g)

-- ---- how many pairs are compared goes by the tests alone

abbrev tested : List Bool → ℕ
tested [] = 0
tested (b ∷ bs) = suc (pick b 0 (tested bs))

compared_tested : {A : Type 0} (f : A → Bool) (xs : List A) → length (up_to_first f xs) ≡ tested (map f xs)
compared_tested f [] = refl
compared_tested f (x ∷ xs) = ap suc (go (f x) (compared_tested f xs))
  where
    go : (b : Bool) → length (up_to_first f xs) ≡ tested (map f xs) → length (pick b [] (up_to_first f xs)) ≡ pick b 0 (tested (map f xs))
    go true e = refl
    go false e = e

same_tests : (xs : List Slot) → length xs ≤ 4 → map same_unit (slot_pairs (map unit_of xs)) ≡ map on_one_unit (slot_pairs xs)
same_tests [] h = refl
same_tests (a ∷ []) h = refl
same_tests (a ∷ b ∷ []) h = refl
same_tests (a ∷ b ∷ c ∷ []) h = refl
same_tests (a ∷ b ∷ c ∷ d ∷ []) h = refl
same_tests (a ∷ b ∷ c ∷ d ∷ x ∷ xs) h = absurd (omega arith)

-- the pairs that the code counts are those of the slots
pub pairs_told : (xs : List Slot) {us : List ℕ} → length xs ≤ 4 → us ≡ map unit_of xs → (compared_units us).pairs ≡ pairs_compared xs
unfolding compared_units pairs_compared
pairs_told xs h e =
    rw e
    (compared_tested same_unit (slot_pairs (map unit_of xs)) ∙ ap tested (same_tests xs h)
    ∙ sym (compared_tested on_one_unit (slot_pairs xs)))

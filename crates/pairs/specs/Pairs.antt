-- Document 02, Note 7: how many pairs of a line's slots its check compares for rule 5.
use Rattle.std.specs.Prelude.{ℕ, List, [], ◌∷◌, ◌++◌, map, Bool, ◌||◌, length, eqb, Result}
use Rattle.bits.specs.Pick.{pick}
use Rattle.slots.specs.Conditionals.{unconditional}
use Rattle.slots.specs.declared.slot.Slot.{Slot}
use Rattle.slots.specs.declared.conditional_slot.Conditional.{Conditional}
use Rattle.slots.specs.declared.slot.SlotRefusal.{SlotRefusal}
use Rattle.line.specs.Rules.{unit_of, rule3, rule15, rule16, rule4, slots_of}

-- up to and with the first that the test holds of; the whole list where it holds of none
abbrev pub up_to_first : {A : Type 0} → (A → Bool) → List A → List A
up_to_first f [] = []
up_to_first f (x ∷ xs) = x ∷ pick (f x) [] (up_to_first f xs)

-- each of a list in pairs (earlier, later) with those before it: pairs go by their later one, then by their earlier one
abbrev pub pairs_after : {A : Type 0} → List A → List A → List (A × A)
pairs_after before [] = []
pairs_after before (later ∷ rest) = map (λ earlier. (earlier, later)) before ++ pairs_after (before ++ (later ∷ [])) rest

-- of four slots: (0,1), (0,2), (1,2), (0,3), (1,3), (2,3)
abbrev pub slot_pairs : {A : Type 0} → List A → List (A × A)
slot_pairs xs = pairs_after [] xs

abbrev pub on_one_unit : Slot × Slot → Bool
on_one_unit pair = eqb (unit_of pair.0) (unit_of pair.1)

-- up to and with the first pair on one unit
unfoldable pub pairs_compared : List Slot → ℕ
pairs_compared xs = length (up_to_first on_one_unit (slot_pairs xs))

-- rules 3, 15, 16 and 4 come before rule 5
abbrev pub refused_before5 : List (Result Conditional SlotRefusal) → Bool
refused_before5 rs = rule3 rs || rule15 rs || rule16 rs || rule4 (unconditional (slots_of rs))

-- a line refused before rule 5 reports 0
unfoldable pub pairs_reported : List (Result Conditional SlotRefusal) → ℕ
pairs_reported rs = pick (refused_before5 rs) 0 (pairs_compared (unconditional (slots_of rs)))

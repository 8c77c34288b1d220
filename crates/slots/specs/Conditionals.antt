-- Document 02, Notes 5 and 6: a slot of a line is seven words, its six fields and its condition. It is refused with 3 for its fields,
-- only then with 15 for its condition, and only then with 16 for its modifier.
use Rattle.std.specs.Prelude.{ℕ, List, [], ◌∷◌, Bool, true, not, ◌&&◌, ◌||◌, Result, Ok, Err, length, take, get_or, leb, eqb}
use Rattle.bits.specs.Pick.{pick}
use Rattle.slots.specs.Slots.{field_words, read_fields, fields_code}
use Rattle.slots.specs.Families.{on_dab_load}
use Rattle.slots.specs.declared.slot.Slot.{Slot}
use Rattle.slots.specs.declared.slot.Slot.TheVariants.{Buffer}
use Rattle.slots.specs.declared.slot.SlotRefusal.{SlotRefusal}
use Rattle.slots.specs.declared.slot.SlotRefusal.TheVariants.{BadFields, BadCondition, BadModifier}
use Rattle.slots.specs.declared.conditional_slot.Conditional.{Conditional}
use Rattle.slots.specs.declared.conditional_slot.LineSlot.{LineSlot}

-- the words of a slot: unit, op, target, first, second, imm, condition
abbrev pub slot_words : ℕ
slot_words = 7

-- the condition: 0 always, or a condition number, 0 to 11, plus 1
abbrev pub condition_fits : ℕ → Bool
condition_fits c = leb c 12

-- no slot's condition: that of a load which a line does not have
abbrev pub never : ℕ
never = 13

abbrev pub conditional : Slot → ℕ → Conditional
conditional x c = record { slot = x; condition = c }

-- the modifier of a load through a data alignment buffer is 4
abbrev pub modifier_fits : Slot → Bool
modifier_fits x = on_dab_load true (λ ialu b t f i. eqb i 4) x

-- what was read of the fields, with the condition
abbrev pub with_condition : ℕ → Result Slot SlotRefusal → Result Conditional SlotRefusal
with_condition c (Ok x) =
    pick (condition_fits c) (pick (modifier_fits x) (Ok (conditional x c)) (Err BadModifier)) (Err BadCondition)
with_condition c (Err e) = Err e

unfoldable pub read_slot : List ℕ → Result Conditional SlotRefusal
read_slot w =
    pick (eqb (length w) slot_words) (with_condition (get_or w field_words 0) (read_fields (take field_words w))) (Err BadFields)

-- the slots of a line without their conditions: rules 4 to 7 count each as live
abbrev pub unconditional : List Conditional → List Slot
unconditional [] = []
unconditional (x ∷ xs) = x.slot ∷ unconditional xs

-- a slot in its line. load: the condition of the slot that loads the THR pair which this one shifts
abbrev pub line_slot : Slot → ℕ → ℕ → LineSlot
line_slot x c l = record { slot = x; condition = c; load = l }

-- what stands in the code's array before the slots do, and past the slots of a line
abbrev pub no_slot : Slot
no_slot = Buffer 0 0 0 0

abbrev pub no_conditional : Conditional
no_conditional = conditional no_slot 0

-- ---- when slot reading gives which of the papers' codes (`read_code`)

-- unit 7 or 8, with op 24 or 25: the ops of an IALU end there
abbrev pub loads_through_dab : List ℕ → Bool
loads_through_dab w = (eqb (get_or w 0 0) 7 || eqb (get_or w 0 0) 8) && leb 24 (get_or w 1 0)

-- 3 for what the fields break and for words of another number, then 15 for a condition above 12, then 16 for a modifier that is not 4;
-- else 0
abbrev pub slot_code : List ℕ → ℕ
slot_code w =
    pick (eqb (length w) slot_words && eqb (fields_code (take field_words w)) 0)
    (pick (condition_fits (get_or w field_words 0)) (pick (not (loads_through_dab w) || eqb (get_or w 5 0) 4) 0 16) 15) 3

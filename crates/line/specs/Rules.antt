-- 01, 'Whose doing a refusal is': rules 3 to 7 of a line, on the list of its slots, and 15 and 16 of document 02, Notes 5 and 6.
use Rattle.std.specs.Prelude.{ℕ, suc, ◌+◌, List, [], ◌∷◌, Bool, false, ◌&&◌, ◌||◌, take, get_or, ltb, eqb, Result, Ok, Err}
use Rattle.bits.specs.Pick.{pick}
use Rattle.bits.specs.Signed.{signed, overflows}
use Rattle.slots.specs.Lists.{some, total, count, twice, first}
use Rattle.slots.specs.Places.{same_place}
use Rattle.slots.specs.Stores.{stored_by}
use Rattle.slots.specs.Slots.{read_code}
use Rattle.slots.specs.Conditionals.{unconditional}
use Rattle.slots.specs.Families.{on_modifier}
use Rattle.slots.specs.SlotWords.{words_of_slot}
use Rattle.slots.specs.declared.slot.Slot.{Slot}
use Rattle.slots.specs.declared.conditional_slot.Conditional.{Conditional}
use Rattle.slots.specs.declared.slot.SlotRefusal.{SlotRefusal}
use Rattle.slots.specs.declared.slot.SlotRefusal.TheVariants.{BadFields, BadCondition, BadModifier}
use Rattle.line.specs.Verdicts.{Verdict}

-- ---- what the rules ask of a slot

-- 01's unit number
abbrev pub unit_of : Slot → ℕ
unit_of x = get_or (words_of_slot x) 0 0

-- the unit of a slot for block b (0 X, 1 Y), among ALU, shifter, CLU, transfer
abbrev pub unit_for : ℕ → ℕ → Bool
unit_for b u = eqb u (1 + b) || eqb u (3 + b) || eqb u (5 + b) || eqb u (9 + b)

abbrev pub for_block : ℕ → Slot → Bool
for_block b x = unit_for b (unit_of x)

-- imm is an immediate where second is 32; outside -128..127, the values of eight bits, its slot is wide
abbrev pub wide_immediate : ℕ → ℕ → Bool
wide_immediate s i = eqb s 32 && overflows 8 (signed 32 i)

abbrev pub wide : Slot → Bool
wide x = on_modifier false (λ w s i. wide_immediate s i) x

abbrev pub positions : Slot → ℕ
positions x = pick (wide x) 2 1

-- ---- the rules: whether some slots break one

-- 3: a slot whose fields cannot be read
abbrev pub rule3 : List (Result Conditional SlotRefusal) → Bool
rule3 rs = some (λ r. eqb (read_code r) 3) rs

-- 15: a slot whose condition is above 12
abbrev pub rule15 : List (Result Conditional SlotRefusal) → Bool
rule15 rs = some (λ r. eqb (read_code r) 15) rs

-- 16: a slot whose modifier is not 4 where it must be
abbrev pub rule16 : List (Result Conditional SlotRefusal) → Bool
rule16 rs = some (λ r. eqb (read_code r) 16) rs

-- 4: over four positions, or a second wide slot
abbrev pub rule4 : List Slot → Bool
rule4 xs = ltb 4 (total positions xs) || ltb 1 (count wide xs)

-- 5: two slots on one unit
abbrev pub rule5 : List Slot → Bool
rule5 xs = twice (λ x y. eqb (unit_of x) (unit_of y)) xs

-- 6: over two slots for one block
abbrev pub rule6 : List Slot → Bool
rule6 xs = ltb 2 (count (for_block 0) xs) || ltb 2 (count (for_block 1) xs)

-- 7: a register place stored twice, by two slots or one (THR priority excepted: a DESPREAD beside a load of its pair stores
-- no THR)
abbrev pub rule7 : List Slot → Bool
rule7 xs = twice same_place (stored_by xs xs)

-- ---- the verdict on a line

abbrev pub verdict : ℕ → ℕ → Verdict
verdict code slot = record { code = code; slot = slot }

-- a line that breaks the rule: slot is the first s such that slots 0..s already break it; a line has at most four
abbrev pub refuse : {A : Type 0} → ℕ → (List A → Bool) → List A → Verdict → Verdict
refuse code rule xs otherwise = pick (rule xs) (verdict code (first (λ s. rule (take (suc s) xs)) 4)) otherwise

-- rules 4 to 7 in their order, each over the whole line
unfoldable pub slots_verdict : List Slot → Verdict
slots_verdict xs =
    refuse 4 rule4 xs
    (refuse 5 rule5 xs
    (refuse 6 rule6 xs
    (refuse 7 rule7 xs (verdict 0 0))))

-- the slots among what was read
abbrev pub slots_of : List (Result Conditional SlotRefusal) → List Conditional
slots_of [] = []
slots_of (Ok x ∷ rs) = x ∷ slots_of rs
slots_of (Err e ∷ rs) = slots_of rs

-- rule 3, then 15, then 16, and then the others, which count every slot as live
unfoldable pub reads_verdict : List (Result Conditional SlotRefusal) → Verdict
reads_verdict rs =
    refuse 3 rule3 rs (refuse 15 rule15 rs (refuse 16 rule16 rs (slots_verdict (unconditional (slots_of rs)))))

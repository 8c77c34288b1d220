-- The words that a slot is: 01's unit number and field values for each case of the enum, and the condition.
use Rattle.std.specs.Prelude.{ℕ, ◌+◌, ◌*◌, List, [], ◌∷◌, ◌++◌}
use Rattle.slots.specs.declared.slot.Slot.{Slot}
use Rattle.slots.specs.declared.slot.Slot.TheVariants.{Alu, Shifter, Trellis, Tmax, Despread, Transfer}
use Rattle.slots.specs.declared.slot.Slot.TheVariants.{Arith, Buffer, Access, DabLoad}
use Rattle.slots.specs.declared.conditional_slot.Conditional.{Conditional}

-- unit, op, target, first, second, imm; a field that the case does not have is unused, and 0
abbrev pub words_of_slot : Slot → List ℕ
words_of_slot (Alu b op t f s) = (1 + b) ∷ op ∷ t ∷ f ∷ s ∷ 0 ∷ []
words_of_slot (Shifter b op t f s) = (3 + b) ∷ op ∷ t ∷ f ∷ s ∷ 0 ∷ []
words_of_slot (Trellis b op t f s quad) = (5 + b) ∷ op ∷ t ∷ f ∷ s ∷ quad ∷ []
words_of_slot (Tmax b op t f s) = (5 + b) ∷ op ∷ t ∷ f ∷ s ∷ 0 ∷ []
words_of_slot (Despread b op t f pair old) = (5 + b) ∷ op ∷ t ∷ f ∷ pair ∷ old ∷ []
words_of_slot (Transfer b op t f) = (9 + b) ∷ op ∷ t ∷ f ∷ 0 ∷ 0 ∷ []
words_of_slot (Arith ialu op t f s i) = (7 + ialu) ∷ op ∷ t ∷ f ∷ s ∷ i ∷ []
words_of_slot (Buffer ialu op t f) = (7 + ialu) ∷ op ∷ t ∷ f ∷ 0 ∷ 0 ∷ []
words_of_slot (Access ialu op w file n f s i) = (7 + ialu) ∷ op ∷ (65536 * w + 256 * file + n) ∷ f ∷ s ∷ i ∷ []
words_of_slot (DabLoad ialu b t f i) = (7 + ialu) ∷ (24 + b) ∷ t ∷ f ∷ 32 ∷ i ∷ []

-- with its condition behind them
abbrev pub words_of : Conditional → List ℕ
words_of x = words_of_slot x.slot ++ (x.condition ∷ [])

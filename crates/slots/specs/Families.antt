-- What matters for slots of one kind only: `none` for every other slot. The fields are in 01's order.
use Rattle.std.specs.Prelude.{ℕ, Result, Ok, Err}
use Rattle.slots.specs.declared.slot.Slot.{Slot}
use Rattle.slots.specs.declared.slot.Slot.TheVariants.{Despread, Transfer, Arith, Access, DabLoad}
use Rattle.slots.specs.declared.conditional_slot.Conditional.{Conditional}
use Rattle.slots.specs.declared.slot.SlotRefusal.{SlotRefusal}

-- DESPREAD: block, op, target, first, THR pair, the R that takes the old TR
abbrev pub on_despread : {A : Type 0} → A → (ℕ → ℕ → ℕ → ℕ → ℕ → ℕ → A) → Slot → A
on_despread none f (Despread b op t x p o) = f b op t x p o
on_despread none f x = none

-- a CLU transfer: block, op, target, first
abbrev pub on_transfer : {A : Type 0} → A → (ℕ → ℕ → ℕ → ℕ → A) → Slot → A
on_transfer none f (Transfer b op t x) = f b op t x
on_transfer none f x = none

-- an IALU slot with a second operand, by which an index may be modified: its width, which is 1 for arithmetic, second, imm
abbrev pub on_modifier : {A : Type 0} → A → (ℕ → ℕ → ℕ → A) → Slot → A
on_modifier none f (Arith ialu op t x s i) = f 1 s i
on_modifier none f (Access ialu op w file n x s i) = f w s i
on_modifier none f (DabLoad ialu b t x i) = f 4 32 i
on_modifier none f x = none

-- an access to memory: ialu, op, width, file, number, first, second, imm
abbrev pub on_access : {A : Type 0} → A → (ℕ → ℕ → ℕ → ℕ → ℕ → ℕ → ℕ → ℕ → A) → Slot → A
on_access none f (Access ialu op w file n x s i) = f ialu op w file n x s i
on_access none f x = none

-- a load through a data alignment buffer: ialu, block, target, first, imm
abbrev pub on_dab_load : {A : Type 0} → A → (ℕ → ℕ → ℕ → ℕ → ℕ → A) → Slot → A
on_dab_load none f (DabLoad ialu b t x i) = f ialu b t x i
on_dab_load none f x = none

-- what was read: `none` where it is refused
abbrev pub on_conditional : {A : Type 0} → A → (Conditional → A) → Result Conditional SlotRefusal → A
on_conditional none f (Ok x) = f x
on_conditional none f (Err e) = none

-- Serves the code only; a reader of 01 can skip it.
-- The slots of a line as the code has them.
use Rattle.std.specs.Prelude.{ℕ, List}
use Rattle.std.proofs.Math.Option.{Option, none, some}
use Rattle.slots.specs.Lists.{nth_of}
use Rattle.slots.specs.declared.conditional_slot.LineSlot.{LineSlot}
use Rattle.steps.specs.Steps.{Act, act}

-- slot s; none past them
unfoldable pub acts_in : List LineSlot → ℕ → Option Act
acts_in slots s = nth_of (λ x. some (act x)) none s slots

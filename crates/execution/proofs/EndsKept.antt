-- A line leaves true ends true.
use mathlib.Core.List.{List}
use lib.Dec.{eqb}
use Rattle.slots.specs.declared.conditional_slot.Conditional.{Conditional}
use Rattle.slots.proofs.Picks.{picked}
use Rattle.machine.specs.Machine.{Machine, EndsTrue}
use Rattle.machine.proofs.Ends.{true_puts}
use Rattle.execution.specs.PlainLine.{plain_line, refusal_of, line_end}

abbrev pub Right : Machine → Type 0
Right m = EndsTrue m.state

module _ (line : List Conditional) (m : Machine) (t : EndsTrue m.state) where
  pub plain_true : EndsTrue (plain_line line m).state
  unfolding plain_line
  plain_true = true_puts _ m t

  pub line_true : EndsTrue (line_end line m).state
  unfolding line_end
  line_true = picked Right (eqb (refusal_of line m).code 0) (plain_line line m) m (λ _. plain_true) (λ _. t)

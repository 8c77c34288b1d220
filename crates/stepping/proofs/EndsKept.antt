-- An ordered line leaves true ends true, also where the limit ends inside it.
use mathlib.Core.List.{List}
use Prim.Native.Nat.{ℕ}
use lib.Dec.{eqb}
use Rattle.slots.specs.declared.conditional_slot.Conditional.{Conditional}
use Rattle.slots.proofs.Picks.{picked}
use Rattle.machine.specs.Machine.{Machine, EndsTrue}
use Rattle.execution.proofs.EndsKept.{Right}
use Rattle.steps.specs.Steps.{acts_of, in_place}
use Rattle.steps.proofs.StepsTrue.{steps_true}
use Rattle.stepping.specs.OrderedLine.{made_of, ordered_refusal, ordered_end}

pub ordered_true : (line : List Conditional) (left : ℕ) (m : Machine) (order : List ℕ) → EndsTrue m.state
    → EndsTrue (ordered_end line left m order).state
unfolding ordered_end
ordered_true line left m order t =
    picked Right (eqb (ordered_refusal line m order).code 0) (in_place line (made_of left line order) m) m
    (λ _. steps_true (acts_of line) (made_of left line order) m t) (λ _. t)

use mathlib.Core.Path.{◌≡◌}
use lib.ListN.{length, drop}
use Rattle.machine.specs.Machine.{EndsTrue}
use Rattle.layout.specs.Layout.{machine_of, state_of}
use Rattle.steps.specs.Steps.{begun, steps_from}
use Rattle.steps.specs.SlotSteps.{acts_in}
use Rattle.steps.proofs.Stepped.{in_line}
use Rattle.steps.proofs.EndsHeld.{EndsHeld}
use Rattle.steps.proofs.perform.perform.Given as goal

-- what is left of the order leads where the whole order leads. All ends are true
abbrev pub invariant-loop-byte : goal.invariant-loop-byte
invariant-loop-byte l =
    record {
      places : length l.held ≡ 4;
      done : steps_from (acts_in l.slots) (drop l.byte-index l.order) (in_line (machine_of l.files l.memory) l.held)
          ≡ steps_from (acts_in l.slots) l.order (begun (machine_of l.initial.files l.initial.memory));
      ends : EndsTrue (state_of l.files);
      held_ends : EndsHeld l.slots l.held;
    }

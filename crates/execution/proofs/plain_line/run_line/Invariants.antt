use mathlib.Core.Path.{◌≡◌}
use lib.ListN.{drop}
use Rattle.machine.specs.Fetches.{puts}
use Rattle.layout.specs.Layout.{machine_of}
use Rattle.execution.specs.PlainLine.{stores_of, line_of, plain_line}
use Rattle.execution.proofs.plain_line.run_line.Given as goal

-- the stores of the slots before x are made
abbrev pub invariant-loop-x : goal.invariant-loop-x
invariant-loop-x l =
    puts (stores_of (drop l.x-index l.x-items)) (machine_of l.files l.memory)
    ≡ plain_line (line_of l.line) (machine_of l.initial.files l.initial.memory)

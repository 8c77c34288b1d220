use mathlib.Core.Path.{◌≡◌}
use Prim.Native.Nat.{◌-◌, ◌*◌, ◌≤◌}
use lib.ListN.{length}
use Rattle.image.specs.Directory.{line_count}
use Rattle.image.specs.Check.{lines_from, lines_of}
use Rattle.machine.specs.Machine.{EndsTrue}
use Rattle.layout.specs.Layout.{machine_of, state_of}
use Rattle.runs.specs.Plain.{plain_from}
use Rattle.runs.proofs.run.run_lines.Given as goal

-- the lines before the next are done: what is left of the run is the whole run. All ends are true
abbrev pub invariant-loop-lines : goal.invariant-loop-lines
invariant-loop-lines l =
    (l.n ≡ line_count l.image) × (l.steps ≤ 8 * l.lines) × (length l.memory ≡ length l.initial.memory)
    × (plain_from 0 0 (lines_of l.image) (machine_of l.initial.files l.initial.memory)
    ≡ plain_from l.lines l.steps (lines_from l.image l.lines (l.n - l.lines)) (machine_of l.files l.memory))
    × EndsTrue (state_of l.files)

use Rattle.std.proofs.Common.{◌≤◌}
use Rattle.replay.specs.Case.{Room}
use Rattle.replay.proofs.cases.replay.Given as goal

abbrev pub invariant-loop-case : goal.invariant-loop-case
invariant-loop-case g l = record {
  differing : l.differing ≤ l.case;
  room : Room l.bytes l.words l.memory;
}

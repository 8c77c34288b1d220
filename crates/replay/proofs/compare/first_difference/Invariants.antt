use mathlib.Core.Path.{◌≡◌}
use Prim.Native.Nat.{◌≤◌}
use lib.ListN.{length}
use Rattle.replay.specs.Compare.{difference_from}
use Rattle.replay.proofs.Differences.{on_from}
use Rattle.replay.proofs.compare.first_difference.Given as goal

-- what is left to compare is compared as the whole
abbrev pub invariant-loop-i : goal.invariant-loop-i
invariant-loop-i l = record {
  found : l.i ≤ length l.found;
  same : difference_from l.start l.expected l.found ≡ on_from l.start l.expected l.found l.i;
}

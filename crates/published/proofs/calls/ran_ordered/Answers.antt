use Rattle.std.proofs.Common.{ap}
use Rattle.published.specs.Calls.{left, ran_ordered}
use Rattle.published.proofs.calls.ran_ordered.Goals as goal

pub returns : goal.returns
unfolding ran_ordered
returns c =
    ap (left c.args.board) c.ts201_run_ordered.ensures

use Rattle.std.proofs.Common.{ap}
use Rattle.published.specs.Calls.{left, ran}
use Rattle.published.proofs.calls.ran.Goals as goal

pub returns : goal.returns
unfolding ran
returns c =
    ap (left c.args.board) c.ts201_run.ensures

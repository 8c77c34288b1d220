use Rattle.replay.proofs.Calls.{check_compared_lem}
use Rattle.replay.proofs.case.check_case.Goals as goal

pub returns : goal.returns
returns c =
    check_compared_lem _ _ c.check.ensures c.check_difference.ensures

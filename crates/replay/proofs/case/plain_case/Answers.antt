use Rattle.replay.proofs.Calls.{plain_compared_lem}
use Rattle.replay.proofs.case.plain_case.Goals as goal

pub returns : goal.returns
returns c =
    plain_compared_lem _ _ _ c.requires.1 c.start-state.ensures c.run-ran.ensures
    c.run_difference.ensures

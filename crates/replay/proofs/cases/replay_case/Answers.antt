use Rattle.std.proofs.Common.{refl}
use Rattle.replay.specs.Cases.{judged}
use Rattle.replay.proofs.cases.replay_case.Goals as goal

pub returns-in-Err : goal.returns-in-Err
unfolding judged
returns-in-Err g c = refl

use Rattle.std.proofs.Common.{refl}
use Rattle.replay.specs.Cases.{total_of}
use Rattle.replay.proofs.cases.total_of.Goals as goal

pub returns-then-failed : goal.returns-then-failed
unfolding total_of
returns-then-failed c = rw c.if-failed.true refl

pub returns : goal.returns
unfolding total_of
returns c = rw c.if-failed.false refl

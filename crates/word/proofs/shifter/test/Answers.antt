use Rattle.word.specs.Shifter.{tested}
use Rattle.word.proofs.shifter.test.Goals as goal

pub returns : goal.returns
unfolding tested
returns c = cc

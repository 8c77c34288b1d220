use Rattle.clu.specs.Clu.{two}
use Rattle.clu.proofs.unit.two.Goals as goal

pub returns : goal.returns
unfolding two
returns c = cc

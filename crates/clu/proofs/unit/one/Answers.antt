use Rattle.clu.specs.Clu.{one}
use Rattle.clu.proofs.unit.one.Goals as goal

pub returns : goal.returns
unfolding one
returns c = cc

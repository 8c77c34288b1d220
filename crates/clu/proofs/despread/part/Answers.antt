use mathlib.Core.Path.{refl}
use Rattle.clu.specs.Despread.{part}
use Rattle.clu.proofs.despread.part.Goals as goal

pub returns : goal.returns
unfolding part
returns c = refl

use mathlib.Core.Path.{refl}
use Rattle.clu.specs.Despread.{shifted_pair}
use Rattle.clu.proofs.despread.shift_pair.Goals as goal

pub returns : goal.returns
unfolding shifted_pair
returns c = refl

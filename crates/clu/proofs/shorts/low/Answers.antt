use mathlib.Core.Path.{◌∙◌}
use Rattle.bits.proofs.SignedWords.{read_is}
use Rattle.clu.specs.Tmax.{low}
use Rattle.clu.proofs.shorts.low.Goals as goal

pub returns : goal.returns
unfolding low
returns c = read_is c.short.result c.short.type_inv ∙ c.short.ensures

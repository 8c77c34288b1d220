use mathlib.Core.Path.{◌∙◌}
use Rattle.bits.proofs.SignedWords.{read_is}
use Rattle.clu.specs.Tmax.{high}
use Rattle.clu.proofs.shorts.high.Goals as goal

pub returns : goal.returns
unfolding high
returns c = read_is c.short.result c.short.type_inv ∙ c.short.ensures

use borrow.Author.Rules.{rules}
use Rattle.bits.proofs.SignedWords.{read_is}
use Rattle.clu.specs.Tmax.{as_shorts}
use Rattle.clu.proofs.Lanes.{wrap_low}
use Rattle.clu.proofs.shorts.join.Goals as goal

pub returns : goal.returns
unfolding as_shorts
returns c = rw (
  c.word.ensures,
  c.word-2.ensures,
  read_is c.args.l.value (search rules),
  read_is c.args.h.value (search rules),
  wrap_low c.args.l.value,
  wrap_low c.args.h.value,
)

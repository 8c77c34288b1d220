use Rattle.bits.proofs.SignedWords.{read_is}
use Rattle.clu.specs.Tmax.{tmax_shorts}
use Rattle.clu.proofs.shorts.tmax_shorts.Goals as goal

pub returns : goal.returns
unfolding tmax_shorts
returns c = rw (
  c.join.ensures,
  c.tmax.ensures,
  c.tmax-2.ensures,
  read_is c.low.result c.low.type_inv,
  read_is c.low-2.result c.low-2.type_inv,
  read_is c.high.result c.high.type_inv,
  read_is c.high-2.result c.high-2.type_inv,
  c.low.ensures,
  c.low-2.ensures,
  c.high.ensures,
  c.high-2.ensures,
)

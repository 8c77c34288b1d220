use Rattle.bits.proofs.SignedWords.{read_is}
use Rattle.clu.specs.Trellis.{shorts}
use Rattle.clu.proofs.trellis.shorts.Goals as goal

pub returns : goal.returns
unfolding shorts
returns g c = rw (
  c.join.ensures,
  c.lane.ensures,
  c.lane-2.ensures,
  read_is c.low.result c.low.type_inv,
  read_is c.low-2.result c.low-2.type_inv,
  read_is c.low-3.result c.low-3.type_inv,
  read_is c.low-4.result c.low-4.type_inv,
  read_is c.high.result c.high.type_inv,
  read_is c.high-2.result c.high-2.type_inv,
  read_is c.high-3.result c.high-3.type_inv,
  read_is c.high-4.result c.high-4.type_inv,
  c.low.ensures,
  c.low-2.ensures,
  c.low-3.ensures,
  c.low-4.ensures,
  c.high.ensures,
  c.high-2.ensures,
  c.high-3.ensures,
  c.high-4.ensures,
)

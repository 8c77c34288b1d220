use Rattle.bits.proofs.SignedWords.{read_is}
use Rattle.clu.specs.Tmax.{larger}
use Rattle.clu.proofs.Lanes.{max_is}
use Rattle.clu.proofs.trellis.MaxBest.kept.Goals as goal

pub returns : goal.returns
unfolding larger
returns c = rw (
  read_is c.max.result c.max.type_inv,
  c.max.ensures.value,
  read_is c.args.a c.ranges.a.sfits,
  read_is c.args.b c.ranges.b.sfits,
  max_is c.args.a c.args.b,
)

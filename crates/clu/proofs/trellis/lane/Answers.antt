use borrow.Author.Rules.{rules}
use Rattle.bits.proofs.SignedWords.{read_is}
use Rattle.clu.specs.Trellis.{lane, best_of}
use Rattle.clu.proofs.trellis.lane.Goals as goal

pub returns : goal.returns
unfolding lane best_of
returns g c = rw (
  read_is c.kept-t.result.value (search rules),
  c.kept-t.ensures,
  read_is c.joined-p.result.value (search rules),
  read_is c.joined-q.result.value (search rules),
  c.joined-p.ensures,
  c.joined-q.ensures,
  read_is c.args.a c.ranges.a.sfits,
  read_is c.args.r c.ranges.r.sfits,
  read_is c.args.b c.ranges.b.sfits,
  read_is c.args.s c.ranges.s.sfits,
)

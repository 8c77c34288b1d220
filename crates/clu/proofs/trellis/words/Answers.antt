use Rattle.bits.proofs.SignedWords.{read_is}
use Rattle.clu.specs.Trellis.{words}
use Rattle.clu.proofs.trellis.words.Goals as goal

pub returns : goal.returns
unfolding words
returns g c = rw (
  c.as_word.ensures,
  c.lane.ensures,
  read_is c.signed.result c.signed.type_inv,
  read_is c.signed-2.result c.signed-2.type_inv,
  read_is c.signed-3.result c.signed-3.type_inv,
  read_is c.signed-4.result c.signed-4.type_inv,
  c.signed.ensures,
  c.signed-2.ensures,
  c.signed-3.ensures,
  c.signed-4.ensures,
)

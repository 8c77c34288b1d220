use Rattle.bits.proofs.SignedWords.{read_is}
use Rattle.clu.specs.Tmax.{tmax_words}
use Rattle.clu.proofs.tmax.tmax_words.Goals as goal

pub returns : goal.returns
unfolding tmax_words
returns c = rw (
  c.as_word.ensures,
  c.tmax.ensures,
  read_is c.signed.result c.signed.type_inv,
  read_is c.signed-2.result c.signed-2.type_inv,
  c.signed.ensures,
  c.signed-2.ensures,
)

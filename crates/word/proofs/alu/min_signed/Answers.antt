use Rattle.bits.proofs.SignedWords.{read_is}
use Rattle.word.specs.Alu.{min_signed}
use Rattle.word.proofs.alu.min_signed.Goals as goal

pub returns : goal.returns
unfolding min_signed
returns c = rw (
  c.select.ensures,
  read_is c.signed.result c.signed.type_inv,
  read_is c.signed-2.result c.signed-2.type_inv,
  c.signed.ensures,
  c.signed-2.ensures,
)

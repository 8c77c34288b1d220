use Rattle.bits.proofs.SignedWords.{read_is}
use Rattle.word.specs.Alu.{max_signed}
use Rattle.word.proofs.alu.max_signed.Goals as goal

pub returns : goal.returns
unfolding max_signed
returns c = rw (
  c.select.ensures,
  read_is c.signed.result c.signed.type_inv,
  read_is c.signed-2.result c.signed-2.type_inv,
  c.signed.ensures,
  c.signed-2.ensures,
)

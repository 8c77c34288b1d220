use Rattle.std.proofs.Common.{arith}
use Rattle.bits.proofs.SignedWords.{read_is}
use Rattle.word.proofs.Shifts.{shr_read, right_is}
use Rattle.word.proofs.shifter.right_signed.Goals as goal

pub returns : goal.returns
returns c =
    let z = c.signed.result in
    rw (
      c.word.ensures,
      read_is z c.signed.type_inv,
      shr_read z c.min.result c.signed.type_inv,
      c.signed.ensures,
      c.min.ensures,
    ) (right_is c.args.a c.args.k (omega arith))

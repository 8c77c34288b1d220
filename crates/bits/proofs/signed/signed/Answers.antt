use Rattle.std.proofs.Common.{arith}
use Rattle.std.proofs.lemmas.Int.{to_z-of_z}
use Rattle.bits.proofs.SignedWords.{cast_is}
use Rattle.bits.proofs.signed.signed.Goals as goal

pub returns : goal.returns
returns c = grind (arith, to_z-of_z, cast_is)

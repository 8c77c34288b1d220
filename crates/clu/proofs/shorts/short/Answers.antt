use mathlib.Core.Path.{◌∙◌}
use native.Mathlib.Omega.{arith}
use mir.Syntax.{w16}
use Rattle.std.proofs.lemmas.Int.{to_z-of_z}
use Rattle.bits.proofs.SignedWords.{read_is, cast16_is}
use Rattle.clu.proofs.shorts.short.Goals as goal

pub returns : goal.returns
returns c =
    read_is c.from.result c.from.type_inv ∙ c.from.ensures
    ∙ to_z-of_z w16 c.cast_signed.result (record { sfits = c.cast_signed.type_inv }) ∙ c.cast_signed.ensures
    ∙ cast16_is c.args.h (omega arith)

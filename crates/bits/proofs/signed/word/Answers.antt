use mathlib.Core.Path.{◌∙◌, ap}
use mir.Syntax.{w32}
use mir.Val.{of_z}
use Rattle.std.proofs.lemmas.Int.{to_z-of_z}
use Rattle.bits.proofs.SignedWords.{word_is}
use Rattle.bits.proofs.signed.word.Goals as goal

pub returns : goal.returns
returns c = c.cast_unsigned.ensures ∙ ap (of_z w32) (to_z-of_z w32 c.args.z c.ranges.z) ∙ word_is c.args.z c.ranges.z

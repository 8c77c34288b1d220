use Rattle.std.proofs.Common.{◌∙◌}
use Rattle.word.specs.Shifter.{right_signed}
use Rattle.word.proofs.Shifts.{shift_left, shift_right}
use Rattle.word.proofs.shifter.shift_arithmetic.Goals as goal

pub returns-then-places-lt0 : goal.returns-then-places-lt0
returns-then-places-lt0 c =
    c.right_signed.ensures
    ∙ shift_right right_signed c.args.a c.args.s _ _ _ c.signed-places.ensures c.signed-places.type_inv c.from-k.ensures
    c.unsigned_abs.ensures.value c.if-places-lt0.true

pub returns-else-places-lt0 : goal.returns-else-places-lt0
returns-else-places-lt0 c =
    c.left.ensures
    ∙ shift_left right_signed c.args.a c.args.s _ _ _ c.signed-places.ensures c.signed-places.type_inv c.from-k.ensures
    c.unsigned_abs.ensures.value c.if-places-lt0.false

use Rattle.std.proofs.Common.{◌∙◌}
use Rattle.word.specs.Shifter.{right}
use Rattle.word.proofs.Shifts.{shift_left, shift_right}
use Rattle.word.proofs.shifter.shift_logical.Goals as goal

pub returns-then-places-lt0 : goal.returns-then-places-lt0
returns-then-places-lt0 c =
    c.right.ensures
    ∙ shift_right right c.args.a c.args.s _ _ _ c.signed-places.ensures c.signed-places.type_inv c.from-k.ensures
    c.unsigned_abs.ensures.value c.if-places-lt0.true

pub returns-else-places-lt0 : goal.returns-else-places-lt0
returns-else-places-lt0 c =
    c.left.ensures
    ∙ shift_left right c.args.a c.args.s _ _ _ c.signed-places.ensures c.signed-places.type_inv c.from-k.ensures
    c.unsigned_abs.ensures.value c.if-places-lt0.false

use mathlib.Core.Path.{sym, ◌∙◌}
use Rattle.image.proofs.Walk.{line_sized, at_end, line_good, first_bad}
use Rattle.image.proofs.check.check_lines.Goals as goal

pub check_whole-requires : goal.check_whole-requires
check_whole-requires c = rw c.line_at.ensures (line_sized _ _ c.requires (rw c.line_count-k-end.ensures at c.loop-k-test.true))

pub returns-in-Err : goal.returns-in-Err
returns-in-Err c =
    rw c.code.ensures
    (first_bad _ _ c.loop-k-test.true c.line_at.ensures c.check_whole.ensures c.in-Err.is c.loop-k.invariant)

pub loop-k-preserved : goal.loop-k-preserved
loop-k-preserved c =
    c.loop-k.invariant ∙ line_good _ _ c.loop-k-test.true c.line_at.ensures c.check_whole.ensures c.in_default.is

pub returns : goal.returns
returns c = at_end _ _ c.loop-k-test.false ∙ sym c.loop-k.invariant

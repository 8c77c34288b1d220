use Rattle.std.proofs.Common.{refl, ap, ◌∙◌}
use Rattle.slots.proofs.Picks.{is_true, is_false}
use Rattle.published.specs.Row.{outcome}
use Rattle.published.specs.Tally.{counted, taken}
use Rattle.published.proofs.tally.take_row.Goals as goal

pub returns-then-is_heading : goal.returns-then-is_heading
unfolding taken
returns-then-is_heading g c = rw (← c.is_heading.ensures) (is_true _ _ c.if-is_heading.true refl)

pub returns : goal.returns
unfolding taken
returns g c =
    let s = c.args in
    rw (← c.is_heading.ensures) (is_false _ _ c.if-is_heading.false (c.counted.ensures ∙ ap (counted s.tally)
    (c.outcome-outcome.ensures ∙ ap (outcome s.row.now) c.board_of-board.ensures)))

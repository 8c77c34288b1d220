use Rattle.std.proofs.Common.{refl, ap, ◌∙◌}
use Rattle.slots.proofs.Picks.{is_true, is_false}
use Rattle.published.specs.Row.{all_seen, claim, outcome}
use Rattle.published.proofs.row.outcome.Goals as goal

pub returns-then-board-seen : goal.returns-then-board-seen
unfolding outcome
returns-then-board-seen c =
    rw (← (c.all_seen-seen.ensures ∙ ap (all_seen c.args.board) c.field.ensures)) (is_true _ _
    c.if-board-seen.true (c.claim.ensures ∙ ap claim c.field-then-board-seen.ensures))

pub returns : goal.returns
unfolding outcome
returns c =
    rw (← (c.all_seen-seen.ensures ∙ ap (all_seen c.args.board) c.field.ensures)) (is_false _ _
    c.if-board-seen.false refl)

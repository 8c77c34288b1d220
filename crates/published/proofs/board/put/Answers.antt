use Rattle.std.proofs.Common.{refl, ◌∙◌}
use Rattle.slots.proofs.Picks.{lt_taken, lt_left}
use Rattle.published.specs.Board.{put}
use Rattle.published.proofs.board.put.Goals as goal

pub returns-then-place-lt-FLAG_AT : goal.returns-then-place-lt-FLAG_AT
unfolding put
returns-then-place-lt-FLAG_AT c = lt_taken _ _ _ _ c.if-place-lt-FLAG_AT.true c.put_word.ensures

pub returns-then-place-lt-PLACES : goal.returns-then-place-lt-PLACES
unfolding put
returns-then-place-lt-PLACES c =
    lt_left _ _ _ _ c.if-place-lt-FLAG_AT.false (lt_taken _ _ _ _ c.if-place-lt-PLACES.true (c.put_word-then-place-lt-PLACES.ensures ∙ rw
    c.with_flag.ensures refl))

pub returns : goal.returns
unfolding put
returns c =
    lt_left _ _ _ _ c.if-place-lt-FLAG_AT.false (lt_left _ _ _ _ c.if-place-lt-PLACES.false c.bad.ensures)

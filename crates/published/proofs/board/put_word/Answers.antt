use Rattle.std.proofs.Common.{refl}
use Rattle.slots.proofs.Picks.{lt_taken, lt_left}
use Rattle.published.specs.Board.{put_word}
use Rattle.published.proofs.board.put_word.Goals as goal

pub returns-then-place-lt-MEMORY_AT : goal.returns-then-place-lt-MEMORY_AT
unfolding put_word
returns-then-place-lt-MEMORY_AT c = lt_taken _ _ _ _ c.if-place-lt-MEMORY_AT.true refl

pub returns-then-place-lt-REPORT_AT : goal.returns-then-place-lt-REPORT_AT
unfolding put_word
returns-then-place-lt-REPORT_AT c = lt_left _ _ _ _ c.if-place-lt-MEMORY_AT.false (lt_taken _ _ _ _ c.if-place-lt-REPORT_AT.true refl)

pub returns : goal.returns
unfolding put_word
returns c =
    lt_left _ _ _ _ c.if-place-lt-MEMORY_AT.false (lt_left _ _ _ _ c.if-place-lt-REPORT_AT.false c.bad.ensures)

use Rattle.std.proofs.Common.{refl, ◌∙◌}
use Rattle.slots.proofs.Picks.{lt_taken, lt_left}
use Rattle.published.specs.Board.{word_at}
use Rattle.published.proofs.board.word_at.Goals as goal

pub returns-then-place-lt-MEMORY_AT : goal.returns-then-place-lt-MEMORY_AT
unfolding word_at
returns-then-place-lt-MEMORY_AT c = lt_taken _ _ _ _ c.if-place-lt-MEMORY_AT.true refl

pub returns-then-place-lt-REPORT_AT : goal.returns-then-place-lt-REPORT_AT
unfolding word_at
returns-then-place-lt-REPORT_AT c = lt_left _ _ _ _ c.if-place-lt-MEMORY_AT.false (lt_taken _ _ _ _ c.if-place-lt-REPORT_AT.true refl)

pub returns-then-place-lt-ANSWER_AT : goal.returns-then-place-lt-ANSWER_AT
unfolding word_at
returns-then-place-lt-ANSWER_AT c =
    lt_left _ _ _ _ c.if-place-lt-MEMORY_AT.false (lt_left _ _ _ _ c.if-place-lt-REPORT_AT.false (lt_taken _ _ _ _
    c.if-place-lt-ANSWER_AT.true refl))

pub returns-then-place-lt-FLAG_AT : goal.returns-then-place-lt-FLAG_AT
unfolding word_at
returns-then-place-lt-FLAG_AT c =
    lt_left _ _ _ _ c.if-place-lt-MEMORY_AT.false (lt_left _ _ _ _ c.if-place-lt-REPORT_AT.false (lt_left _ _ _ _
    c.if-place-lt-ANSWER_AT.false (lt_taken _ _ _ _ c.if-place-lt-FLAG_AT.true refl)))

pub returns-then-place-lt-PLACES : goal.returns-then-place-lt-PLACES
unfolding word_at
returns-then-place-lt-PLACES c =
    lt_left _ _ _ _ c.if-place-lt-MEMORY_AT.false (lt_left _ _ _ _ c.if-place-lt-REPORT_AT.false (lt_left _ _ _ _ c.if-place-lt-ANSWER_AT.false
    (lt_left _ _ _ _ c.if-place-lt-FLAG_AT.false (lt_taken _ _ _ _ c.if-place-lt-PLACES.true (c.bit.ensures.0 ∙ rw
    c.flag.ensures refl)))))

pub returns : goal.returns
unfolding word_at
returns c =
    lt_left _ _ _ _ c.if-place-lt-MEMORY_AT.false (lt_left _ _ _ _ c.if-place-lt-REPORT_AT.false (lt_left _ _ _ _ c.if-place-lt-ANSWER_AT.false
    (lt_left _ _ _ _ c.if-place-lt-FLAG_AT.false (lt_left _ _ _ _ c.if-place-lt-PLACES.false refl))))

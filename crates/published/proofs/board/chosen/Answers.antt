use Rattle.std.proofs.Common.{refl}
use Rattle.slots.proofs.Picks.{eq_taken, eq_left}
use Rattle.published.proofs.board.chosen.Goals as goal

pub returns-then-i-k : goal.returns-then-i-k
returns-then-i-k c = eq_taken _ _ _ _ c.if-i-k.true refl

pub returns : goal.returns
returns c = eq_left _ _ _ _
    c.if-i-k.false c.flag.ensures

use Rattle.std.proofs.Common.{refl}
use Rattle.slots.proofs.Picks.{eq_taken, eq_left}
use Rattle.published.proofs.row.compared.Goals as goal

pub returns-then-found-expected : goal.returns-then-found-expected
returns-then-found-expected c = eq_taken _ _ _ _ c.if-found-expected.true refl

pub returns : goal.returns
returns c = eq_left _ _ _ _ c.if-found-expected.false refl

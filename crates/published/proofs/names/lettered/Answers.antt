use Rattle.std.proofs.Common.{refl}
use Rattle.slots.proofs.Picks.{is_true, is_false}
use Rattle.published.specs.Names.{lettered}
use Rattle.published.proofs.names.lettered.Goals as goal

pub returns-then-is_some-n : goal.returns-then-is_some-n
unfolding lettered
returns-then-is_some-n c = rw (← c.numbered-place.ensures, ← c.is_some.ensures) (is_true _ _ c.if-is_some-n.true refl)

pub returns : goal.returns
unfolding lettered
returns c = rw (← c.numbered-place.ensures, ← c.is_some.ensures) (is_false _ _ c.if-is_some-n.false c.single.ensures)

use Rattle.std.proofs.Common.{sym, refl, ◌∙◌}
use Rattle.slots.proofs.Picks.{lt_taken, lt_left}
use Rattle.published.specs.Names.{numbered}
use Rattle.published.proofs.names.numbered.Goals as goal

pub returns-in_err-first : goal.returns-in_err-first
unfolding numbered
returns-in_err-first c = rw (c.from_residual.ensures, sym c.entry_of.ensures.0 ∙ c.in_err-first.was) refl

pub returns-then-n-count : goal.returns-then-n-count
unfolding numbered
returns-then-n-count c = rw (sym c.entry_of.ensures.0 ∙ c.in_ok-first.was) (lt_taken _ _ _ _ c.if-n-count.true refl)

pub returns : goal.returns
unfolding numbered
returns c = rw (sym c.entry_of.ensures.0 ∙ c.in_ok-first.was) (lt_left _ _ _ _ c.if-n-count.false refl)

use Rattle.std.proofs.Common.{sym, refl, ◌∙◌}
use Rattle.published.specs.Names.{single}
use Rattle.published.proofs.names.single.Goals as goal

pub returns-in_err-entry_of : goal.returns-in_err-entry_of
unfolding single
returns-in_err-entry_of c = rw (c.from_residual.ensures, sym c.entry_of.ensures.0 ∙ c.in_err-entry_of.was) refl

pub returns : goal.returns
unfolding single
returns c = rw (sym c.entry_of.ensures.0 ∙ c.in_ok-entry_of.was) refl

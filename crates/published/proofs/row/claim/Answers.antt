use Rattle.std.proofs.Common.{sym, refl, ap, ◌∙◌}
use Rattle.slots.proofs.Picks.{lt_taken, lt_left}
use Rattle.text.specs.Parts.{before}
use Rattle.text.specs.Tables.{entry_of}
use Rattle.published.specs.Row.{verdicts, claim}
use Rattle.published.proofs.row.claim.Goals as goal

pub returns-in-Some : goal.returns-in-Some
unfolding claim
returns-in-Some c = rw (sym (c.entry_of.ensures.0 ∙ ap (entry_of verdicts) (c.before-word.ensures ∙ ap (before 58) c.before-2.ensures)) ∙ c.in-Some.is) (lt_taken _ _ _ _ c.if-number-lt3.true refl)

pub returns-in-Some-2 : goal.returns-in-Some-2
unfolding claim
returns-in-Some-2 c = rw (sym (c.entry_of.ensures.0 ∙ ap (entry_of verdicts) (c.before-word.ensures ∙ ap (before 58) c.before-2.ensures)) ∙ c.in-Some.is) (lt_left _ _ _ _ c.if-number-lt3.false refl)

pub returns-in-None : goal.returns-in-None
unfolding claim
returns-in-None c = rw (sym (c.entry_of.ensures.0 ∙ ap (entry_of verdicts) (c.before-word.ensures ∙ ap (before 58) c.before-2.ensures)) ∙ c.in-None.is) refl

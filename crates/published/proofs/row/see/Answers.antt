use Rattle.std.proofs.Common.{sym, refl, ap, ◌∙◌}
use Rattle.slots.proofs.Picks.{is_true, is_false}
use Rattle.text.specs.Numerals.{number}
use Rattle.published.specs.Names.{place}
use Rattle.published.specs.Row.{sight_of}
use Rattle.published.proofs.row.see.Goals as goal

pub returns-then-is_empty : goal.returns-then-is_empty
unfolding sight_of
returns-then-is_empty c = rw (← c.is_empty.ensures) (is_true _ _ c.if-is_empty.true refl)

pub returns-in_default : goal.returns-in_default
unfolding sight_of
returns-in_default c =
    rw (← c.is_empty.ensures) (is_false _ _ c.if-is_empty.false (rw (sym (c.number.ensures ∙ ap number c.after.ensures) ∙ c.in_default.is) refl))

pub returns-in_default-place : goal.returns-in_default-place
unfolding sight_of
returns-in_default-place c =
    rw (← c.is_empty.ensures) (is_false _ _ c.if-is_empty.false (rw (
      sym (c.number.ensures ∙ ap number c.after.ensures) ∙ c.in-Some.is,
      sym (c.place.ensures ∙ ap place c.before-2.ensures) ∙ c.in_default-place.is,
    ) refl))

pub returns : goal.returns
unfolding sight_of
returns c =
    rw (← c.is_empty.ensures) (is_false _ _ c.if-is_empty.false (rw (
      sym (c.number.ensures ∙ ap number c.after.ensures) ∙ c.in-Some.is,
      sym (c.place.ensures ∙ ap place c.before-2.ensures) ∙ c.in-Some-place.is,
    ) (c.compared.ensures ∙ rw c.word_at.ensures refl)))

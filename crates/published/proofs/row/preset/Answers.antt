use Rattle.std.proofs.Common.{sym, refl, ap, ◌∙◌}
use Rattle.slots.proofs.Picks.{is_true, is_false}
use Rattle.text.specs.Numerals.{number}
use Rattle.published.specs.Names.{place}
use Rattle.published.specs.Row.{preset}
use Rattle.published.proofs.row.preset.Goals as goal

pub returns-then-is_empty : goal.returns-then-is_empty
unfolding preset
returns-then-is_empty c = rw (← c.is_empty.ensures) (is_true _ _ c.if-is_empty.true refl)

pub returns-in_default : goal.returns-in_default
unfolding preset
returns-in_default c =
    rw (← c.is_empty.ensures) (is_false _ _ c.if-is_empty.false (rw (sym (c.number.ensures ∙ ap number c.after.ensures) ∙ c.in_default.is) c.bad.ensures))

pub returns-in_default-place : goal.returns-in_default-place
unfolding preset
returns-in_default-place c =
    rw (← c.is_empty.ensures) (is_false _ _ c.if-is_empty.false (rw (
      sym (c.number.ensures ∙ ap number c.after.ensures) ∙ c.in-Some.is,
      sym (c.place.ensures ∙ ap place c.before-2.ensures) ∙ c.in_default-place.is,
    ) c.bad-in_default-place.ensures))

pub returns : goal.returns
unfolding preset
returns c =
    rw (← c.is_empty.ensures) (is_false _ _ c.if-is_empty.false (rw (
      sym (c.number.ensures ∙ ap number c.after.ensures) ∙ c.in-Some.is,
      sym (c.place.ensures ∙ ap place c.before-2.ensures) ∙ c.in-Some-place.is,
    ) c.put.ensures))

use Rattle.std.proofs.Common.{refl, sym, ap, ◌∙◌}
use Rattle.std.specs.Result.{result_map_both}
use Rattle.slots.proofs.Picks.{is_true, is_false}
use Rattle.text.specs.Numbers.{words_in}
use Rattle.published.specs.Calls.{call_named, performed}
use Rattle.published.proofs.calls.perform.Goals as goal

pub returns-in_default : goal.returns-in_default
unfolding performed
returns-in_default c =
    rw (sym (c.call_named.ensures ∙ ap call_named c.before-2.ensures) ∙ c.in_default.is) c.bad.ensures

pub returns-in_default-words_in : goal.returns-in_default-words_in
unfolding performed
returns-in_default-words_in c =
    rw (
      sym (c.call_named.ensures ∙ ap call_named c.before-2.ensures) ∙ c.in-Some.is,
      sym (c.words_in.ensures ∙ ap words_in c.after.ensures) ∙ ap (result_map_both (λ w. w.items) (λ w. w.items)) c.in_default-words_in.is,
    ) c.bad-in_default-words_in.ensures

pub returns-in_default-words_in-2 : goal.returns-in_default-words_in-2
unfolding performed
returns-in_default-words_in-2 c =
    rw (
      sym (c.call_named.ensures ∙ ap call_named c.before-2.ensures) ∙ c.in-Some.is,
      sym (c.words_in.ensures ∙ ap words_in c.after.ensures) ∙ ap (result_map_both (λ w. w.items) (λ w. w.items)) c.in-Ok.is,
      sym c.words_in-2.ensures ∙ ap (result_map_both (λ w. w.items) (λ w. w.items)) c.in_default-words_in-2.is,
    ) c.bad-in_default-words_in-2.ensures

pub returns-then-takes : goal.returns-then-takes
unfolding performed
returns-then-takes c =
    rw (
      sym (c.call_named.ensures ∙ ap call_named c.before-2.ensures) ∙ c.in-Some.is,
      sym (c.words_in.ensures ∙ ap words_in c.after.ensures) ∙ ap (result_map_both (λ w. w.items) (λ w. w.items)) c.in-Ok.is,
      sym c.words_in-2.ensures ∙ ap (result_map_both (λ w. w.items) (λ w. w.items)) c.in-Ok-words_in.is,
      ← c.deref.ensures.0,
      ← c.deref-2.ensures.0,
      ← c.takes.ensures,
    ) (is_true _ _ c.if-takes.true (c.called.ensures ∙ rw (c.deref-then-takes.ensures.0, c.deref-then-takes-2.ensures.0, c.deref.ensures.0, c.deref-2.ensures.0) refl))

pub returns : goal.returns
unfolding performed
returns c =
    rw (
      sym (c.call_named.ensures ∙ ap call_named c.before-2.ensures) ∙ c.in-Some.is,
      sym (c.words_in.ensures ∙ ap words_in c.after.ensures) ∙ ap (result_map_both (λ w. w.items) (λ w. w.items)) c.in-Ok.is,
      sym c.words_in-2.ensures ∙ ap (result_map_both (λ w. w.items) (λ w. w.items)) c.in-Ok-words_in.is,
      ← c.deref.ensures.0,
      ← c.deref-2.ensures.0,
      ← c.takes.ensures,
    ) (is_false _ _ c.if-takes.false c.bad-2.ensures)

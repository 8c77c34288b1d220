use Rattle.std.proofs.Common.{ℕ, drop, sym, refl, ap, ◌∙◌}
use native.Mathlib.Nat.{sub-zero}
use Rattle.slots.proofs.Picks.{eq_taken, eq_left}
use Rattle.text.specs.Numerals.{number}
use Rattle.published.specs.Names.{place}
use Rattle.text.proofs.Lists.{tail}
use Rattle.published.proofs.names.place.Goals as goal

pub returns-then-k-name : goal.returns-then-k-name
unfolding place
returns-then-k-name c = eq_taken _ _ _ _ (sym c.find_between-k.ensures.0 ∙ c.if-k-name.true) c.lettered.ensures

pub returns-in_err-number : goal.returns-in_err-number
unfolding place
returns-in_err-number c =
    let s = c.args.name.now in
    let k = c.find_between-k.ensures.0 in
    let e = sym (c.number.ensures ∙ ap number (tail s _ ∙ ap (λ (i : ℕ). drop i s) k)) ∙ c.in_err-number.was in
    eq_left _ _ _ _ (λ h. c.if-k-name.false (k ∙ h)) (rw (c.from_residual.ensures, e) refl)

pub returns : goal.returns
unfolding place
returns c =
    let s = c.args.name.now in
    let k = c.find_between-k.ensures.0 in
    let e = sym (c.number.ensures ∙ ap number (tail s _ ∙ ap (λ (i : ℕ). drop i s) k)) ∙ c.in_ok-number.was in
    eq_left _ _ _ _ (λ h. c.if-k-name.false (k ∙ h)) (rw e (c.lettered-2.ensures ∙ rw (sub-zero _, k) refl))

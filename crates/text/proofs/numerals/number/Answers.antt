use Rattle.std.proofs.Common.{◌≡◌, ℕ, Option, None, Some, MatchOption, IsSomeAnd, true, false, option_map, sym, ap, ◌∙◌}
use Rattle.slots.proofs.Picks.{taken, left, eq_taken, eq_left}
use Rattle.text.specs.Numerals.{number, digits, minus}
use Rattle.text.proofs.numerals.number.Goals as goal

mapped : (p r : Option ℕ) → MatchOption p (r ≡ None) (λ x. IsSomeAnd r (λ y. y ≡ minus x)) → r ≡ option_map minus p
mapped None r h = h
mapped (Some x) (Some y) h = ap Some h
mapped (Some x) None h = absurd h

pub returns-then-is_hex : goal.returns-then-is_hex
unfolding number
returns-then-is_hex c =
    taken _ _ c.is_hex.ensures c.if-is_hex.true (c.digits.ensures ∙ ap
    (digits true) c.after.ensures)

pub returns-then-byte_at-eq45 : goal.returns-then-byte_at-eq45
unfolding number
returns-then-byte_at-eq45 c =
    left _ _ c.is_hex.ensures
    c.if-is_hex.false (eq_taken _ _ _ _ (sym c.byte_at.ensures ∙ c.if-byte_at-eq45.true)
    (mapped _ _ c.map.ensures.cases ∙ ap (option_map minus) (c.digits-then-byte_at-eq45.ensures ∙ ap (digits false)
    c.after-then-byte_at-eq45.ensures)))

pub returns : goal.returns
unfolding number
returns c =
    left _ _ c.is_hex.ensures c.if-is_hex.false
    (eq_left _ _ _ _ (λ h. c.if-byte_at-eq45.false (c.byte_at.ensures ∙ h)) c.digits-2.ensures)

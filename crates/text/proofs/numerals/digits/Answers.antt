use Rattle.std.proofs.Common.{refl, ap, ◌∙◌, arith, rules, tests}
use Rattle.std.specs.Char.{digit_value}
use Rattle.text.proofs.Scans.{no_digits, some_digits, no_digit, too_large, next_digit, all_digits}
use Rattle.text.proofs.numerals.digits.Goals as goal

pub returns-then-is_empty : goal.returns-then-is_empty
returns-then-is_empty c = no_digits c.args.hex c.args.text.now (search (rules, tests))

pub loop-c-init : goal.loop-c-init
loop-c-init c = some_digits c.args.hex c.args.text.now (search (rules, tests))

pub returns-in_err-digit : goal.returns-in_err-digit
returns-in_err-digit c =
    let l = c.loop-c in
    let a = c.args in
    c.from_residual.ensures ∙ no_digit a.hex a.text.now l.value l.c-index _ _ (omega arith) l.invariant (ap digit_value c.from.ensures) c.base-base.ensures.0 c.in_err-digit.ensures.value

pub returns-in_err-checked_mul : goal.returns-in_err-checked_mul
returns-in_err-checked_mul c =
    let l = c.loop-c in
    let a = c.args in
    let d = c.in_ok-digit.ensures.value in
    c.from_residual-in_err-checked_mul.ensures ∙ too_large a.hex a.text.now l.value l.c-index _ _ (omega arith) l.invariant (d.1 ∙ ap digit_value c.from.ensures) c.base-base.ensures.0 (rw d.1 d.0) _ refl (λ h. c.in_err-checked_mul.ensures (omega arith))

pub returns-in_err-value : goal.returns-in_err-value
returns-in_err-value c =
    let l = c.loop-c in
    let a = c.args in
    let d = c.in_ok-digit.ensures.value in
    c.from_residual-in_err-value.ensures ∙ too_large a.hex a.text.now l.value l.c-index _ _ (omega arith) l.invariant (d.1 ∙ ap digit_value c.from.ensures) c.base-base.ensures.0 (rw d.1 d.0) _ c.in_ok-checked_mul.ensures.1 c.in_err-value.ensures

pub loop-c-preserved : goal.loop-c-preserved
loop-c-preserved c =
    let l = c.loop-c in
    let a = c.args in
    let d = c.in_ok-digit.ensures.value in
    next_digit a.hex a.text.now l.value l.c-index _ _ (omega arith) l.invariant (d.1 ∙ ap digit_value c.from.ensures) c.base-base.ensures.0 (rw d.1 d.0) _ c.in_ok-checked_mul.ensures.1 _ c.in_ok-value.ensures.1 (rw c.in_ok-value.ensures.1 c.in_ok-value.ensures.0)

pub returns : goal.returns
returns c = all_digits c.args.hex c.args.text.now c.loop-c.value c.loop-c.c-index (omega arith) c.loop-c.invariant

use mathlib.Core.Path.{sym, ◌∙◌}
use Rattle.replay.proofs.Differences.{same_error}
use Rattle.replay.proofs.Outcomes.{report_differs, report_same, steps_differ}
use Rattle.replay.proofs.outcome.report_difference.Goals as goal

pub returns-in_err-first_difference : goal.returns-in_err-first_difference
returns-in_err-first_difference c =
    same_error _ _ c.from_residual.ensures.1 ∙ sym c.in_err-first_difference.was
    ∙ report_differs _ c.requires _ c.first_difference.ensures c.in_err-first_difference.was

pub returns-then-from-report : goal.returns-then-from-report
returns-then-from-report c =
    report_same _ c.requires _ c.first_difference.ensures c.in_ok-first_difference.was (sym c.from.ensures ∙ c.if-from-report.true)

pub returns : goal.returns
returns c =
    c.differ.ensures
    ∙ steps_differ _ c.requires _ c.first_difference.ensures c.in_ok-first_difference.was (λ h. c.if-from-report.false (c.from.ensures ∙ h))

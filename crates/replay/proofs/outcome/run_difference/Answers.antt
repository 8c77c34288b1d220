use mathlib.Core.Path.{sym, ◌∙◌}
use native.Mathlib.Omega.{arith}
use Rattle.replay.proofs.Differences.{same_error}
use Rattle.replay.proofs.Outcomes.{end_reported, end_state, end_memory}
use Rattle.replay.proofs.outcome.run_difference.Goals as goal

pub returns-in_err-report_difference : goal.returns-in_err-report_difference
returns-in_err-report_difference c =
    let a = c.args in
    same_error _ _ c.from_residual.ensures.1 ∙ sym c.in_err-report_difference.was
    ∙ end_reported a.expected.now a.ran.report a.ran.state a.memory.now c.requires c.report_difference.ensures c.in_err-report_difference.was

pub returns-in_err-first_difference : goal.returns-in_err-first_difference
returns-in_err-first_difference c =
    let a = c.args in
    same_error _ _ c.from_residual-in_err-first_difference.ensures.1 ∙ sym c.in_err-first_difference.was
    ∙ end_state a.expected.now a.ran.report a.ran.state a.memory.now c.requires c.report_difference.ensures
    c.in_ok-report_difference.was c.words_of-found.ensures.0 (omega arith) c.first_difference.ensures c.in_err-first_difference.was

pub returns : goal.returns
returns c =
    let a = c.args in
    end_memory a.expected.now a.ran.report a.ran.state a.memory.now c.requires c.report_difference.ensures
    c.in_ok-report_difference.was c.words_of-found.ensures.0 (omega arith) c.first_difference.ensures
    c.in_ok-first_difference.was c.first_difference-2.ensures

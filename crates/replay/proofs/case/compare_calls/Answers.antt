use mathlib.Core.Path.{sym, ◌∙◌}
use Rattle.std.proofs.Common.{Ok}
use Rattle.replay.specs.declared.case.Failure.TheVariants.{Check, Plain, Ordered}
use Rattle.replay.specs.Case.{calls_verdict}
use Rattle.replay.proofs.Differences.{same_error}
use Rattle.replay.proofs.Calls.{stopped, passed, mapped}
use Rattle.replay.proofs.case.compare_calls.Goals as goal

pub returns-in_err-map_err : goal.returns-in_err-map_err
unfolding calls_verdict
returns-in_err-map_err c =
    rw (← c.check_case.ensures)
    (same_error _ _ c.from_residual.ensures.1 ∙ sym c.in_err-map_err.was ∙ stopped Check _ _ _ c.map_err.ensures.cases c.in_err-map_err.was)

pub returns-in_err-map_err-2 : goal.returns-in_err-map_err-2
unfolding calls_verdict
returns-in_err-map_err-2 c =
    rw (← c.check_case.ensures, ← c.plain_case.ensures)
    (same_error _ _ c.from_residual-in_err-map_err-2.ensures.1 ∙ sym c.in_err-map_err-2.was
    ∙ stopped Plain _ _ _ c.map_err-2.ensures.cases c.in_err-map_err-2.was ∙ passed Check _ _ _ c.map_err.ensures.cases c.in_ok-map_err.was)

pub returns : goal.returns
unfolding calls_verdict
returns c =
    rw (← c.check_case.ensures, ← c.plain_case.ensures, ← c.ordered_case.ensures)
    (mapped Ordered _ _ (Ok tt) c.map_err-3.ensures.cases ∙ passed Plain _ _ _ c.map_err-2.ensures.cases c.in_ok-map_err-2.was
    ∙ passed Check _ _ _ c.map_err.ensures.cases c.in_ok-map_err.was)

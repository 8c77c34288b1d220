use native.Mathlib.Omega.{arith}
use Rattle.replay.proofs.Calls.{ordered_compared_lem}
use Rattle.replay.proofs.case.ordered_case.Goals as goal

pub offset_bounds-words-at : goal.offset_bounds-words-at
offset_bounds-words-at c =
    omega (arith, c.requires.0, c.well_formed.1.0.1)

pub slice_bounds-run_difference-end : goal.slice_bounds-run_difference-end
slice_bounds-run_difference-end c =
    omega (arith, c.requires)

pub returns : goal.returns
returns c =
    ordered_compared_lem _ _ _ c.requires.1 c.start-state.ensures _ c.limit_of-limit.ensures
    c.run_ordered-ran.ensures c.run_difference.ensures

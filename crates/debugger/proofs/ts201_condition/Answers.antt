use mathlib.Core.Path.{◌∙◌}
use Prim.Native.Nat.{◌≤◌}
use native.Mathlib.Omega.{arith}
use Rattle.debugger.proofs.FlatLaws.{bad_state, condition_told}
use Rattle.debugger.proofs.ts201_condition.Goals as goal

pub returns-then-state-ne-STATE_WORDS : goal.returns-then-state-ne-STATE_WORDS
returns-then-state-ne-STATE_WORDS c =
    let s = c.args in
    bad_state s.number s.state.now c.if-state-ne-STATE_WORDS.true

pub returns : goal.returns
returns c =
    let s = c.args in
    let h : s.number ≤ 11 = omega arith in
    c.bit.ensures.0 ∙ condition_told s.number s.state.now c.if-state-ne-STATE_WORDS.false h c.holds_in.ensures

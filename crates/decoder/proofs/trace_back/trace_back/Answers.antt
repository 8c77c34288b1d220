use mathlib.Core.Path.{◌≡◌, subst}
use Prim.Native.Nat.{ℕ, suc, ◌-◌}
use native.Mathlib.Omega.{arith}
use lib.ListN.{set, length-set}
use Rattle.decoder.proofs.Passes.{Written, traced_back, all_written}
use Rattle.decoder.proofs.trace_back.trace_back.Goals as goal

pub loop-t-preserved : goal.loop-t-preserved
loop-t-preserved c =
    let l = c.loop-t in
    let a = c.args in
    let out = set a.path.now a.stages a.last in
    let e : l.t ≡ suc (l.t - 1) = omega arith in
    traced_back a.stages a.last a.decisions.now out l.path (l.t - 1) l.s c.old_state-s.result (omega arith)
    (omega (arith, c.requires.2, length-set a.path.now a.stages a.last)) c.old_state-s.ensures.0 c.old_state-s.ensures.1
    (subst (λ (n : ℕ). Written a.stages a.last a.decisions.now out l.path n l.s) e l.invariant)

pub returns : goal.returns
returns c =
    let l = c.loop-t in
    let a = c.args in
    all_written a.stages a.last a.decisions.now a.path.now l.path l.t l.s (omega arith) l.invariant

use mathlib.Core.Path.{◌≡◌, sym, subst}
use Prim.Native.Nat.{ℕ, suc, ◌+◌, ◌-◌, ◌*◌, ◌^◌, ◌≤◌, ◌<◌}
use Rattle.std.proofs.Common.{rules}
use native.Mathlib.Omega.{arith}
use lib.IntN.{ℤ, nat_abs}
use lib.ListN.{set}
use lib.Signed.{mag}
use mir.Syntax.{w32}
use mir.Val.{to_z, of_z}
use Rattle.decoder.specs.Trellis.{branch, new_metric}
use Rattle.decoder.specs.Survivors.{at, from_upper}
use Rattle.decoder.proofs.Stages.{Done, one_more, metric_is, metric_size, decision_is}
use Rattle.decoder.proofs.forward.stage.Goals as goal

pub loop-s-preserved : goal.loop-s-preserved
loop-s-preserved c =
    let old = c.args.old in
    let g = c.args.g.now in
    let t = c.args.t in
    let l = c.loop-s in
    let k = l.s - 1 in
    let z = 2 ^ 15 * (t + 1) in
    let m = new_metric (at old) (branch g t) in
    let d = from_upper (at old) (branch g t) in
    let r = c.choose-choice in
    let v : mag (branch g t k) < 2 ^ 15 = search rules in
    let word : mag r.result.metric < 2 ^ 31 = search rules in
    let is = metric_is old g t k c.requires.0 (omega arith) c.requires.3 v r.result.metric word r.ensures.0 in
    let e : l.s ≡ suc k = omega arith in
    subst (λ (n : ℕ). Done z m d k (set l.new k (to_z w32 (of_z w32 r.result.metric))) (n + 2 * l.decisions)) (sym c.bit.ensures.0)
    (one_more z m d k l.new l.decisions (to_z w32 (of_z w32 r.result.metric)) r.result.upper (omega arith) is
    (subst (λ (x : ℤ). nat_abs x ≤ z) (sym is) (metric_size old g t k c.requires.0 (omega arith) c.requires.3 v))
    (decision_is old g t k c.requires.0 (omega arith) c.requires.3 v r.result.upper r.ensures.1)
    (subst (λ (n : ℕ). Done z m d n l.new l.decisions) e l.invariant))

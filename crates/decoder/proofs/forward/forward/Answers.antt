use native.Mathlib.Omega.{arith}
use Rattle.decoder.proofs.Passes.{started, advanced}
use Rattle.decoder.proofs.forward.forward.Goals as goal

pub loop-t-init : goal.loop-t-init
loop-t-init c = started c.args.g.now c.args.decisions.now

pub loop-t-preserved : goal.loop-t-preserved
loop-t-preserved c =
    let l = c.loop-t in
    let r = c.stage in
    advanced c.args.g.now l.t l.metrics r.new.new l.decisions r.result (omega arith) l.invariant r.ensures.0 r.ensures.1
    r.ensures.2 r.ensures.3

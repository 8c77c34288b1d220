use Rattle.std.proofs.Common.{add-one, ◌∙◌, arith}
use Rattle.slots.specs.Places.{Memory}
use Rattle.layout.specs.Layout.{machine_of}
use Rattle.layout.proofs.Spans.{none_stored, one_stored, none_past}
use Rattle.layout.proofs.span.save.Goals as goal
use Rattle.layout.proofs.span.save.Goals.{then-k-n, else-k-n}

pub loop-k-init : goal.loop-k-init
loop-k-init c = λ ws. none_stored _ _

pub loop-k-preserved : goal.loop-k-preserved
loop-k-preserved c =
    λ ws.
    let l = c.loop-k in
    let a = c.args in
    let m = machine_of ws a.memory.now in
    elim c.if-k-n.branch [
      | then-k-n w ↦
          rw (w.memory-is, add-one, w.save.ensures ws, l.invariant ws)
          (one_stored m Memory a.i a.n l.k a.words.now (omega arith) (omega arith))
      | else-k-n w ↦
          rw (w.memory-is, add-one) (l.invariant ws ∙ none_past m Memory a.i a.n l.k a.words.now (omega arith))
    ]

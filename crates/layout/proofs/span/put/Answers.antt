use Rattle.std.proofs.Common.{add-one, ◌∙◌, arith}
use Rattle.layout.specs.Layout.{file_is, machine_of}
use Rattle.layout.proofs.Spans.{none_stored, one_stored, none_past}
use Rattle.layout.proofs.span.put.Goals as goal
use Rattle.layout.proofs.span.put.Goals.{then-k-n, else-k-n}

pub loop-k-init : goal.loop-k-init
loop-k-init c = λ mem. none_stored _ _

pub loop-k-preserved : goal.loop-k-preserved
loop-k-preserved c =
    λ mem.
    let l = c.loop-k in
    let a = c.args in
    let m = machine_of a.files.now mem in
    elim c.if-k-n.branch [
      | then-k-n w ↦
          rw (w.files-is, add-one, w.write.ensures mem, l.invariant mem)
          (one_stored m (file_is a.file) a.i a.n l.k a.words.now (omega arith) (omega arith))
      | else-k-n w ↦
          rw (w.files-is, add-one) (l.invariant mem ∙ none_past m (file_is a.file) a.i a.n l.k a.words.now (omega arith))
    ]

use Rattle.std.proofs.Common.{sym, ◌∙◌, arith}
use Rattle.std.proofs.lemmas.Grind.{same_number_lists}
use Rattle.layout.specs.Layout.{file_is, machine_of}
use Rattle.layout.proofs.Spans.{words_of_span, word_of_span}
use Rattle.layout.proofs.span.get.Goals as goal

pub returns : goal.returns
returns g c =
    λ mem.
    let m = machine_of c.args.files.now mem in
    let i = c.args.i in
    let n = g.row.N in
    let read = c.loop-k.invariant in
    let count = words_of_span m (file_is c.args.file) i n in
    same_number_lists _ _ (omega (arith, read.long, count)) (λ k l.
    read.each mem k (omega (arith, read.long, c.loop-k-test.false))
    ∙ sym (word_of_span m (file_is c.args.file) i n k (omega (arith, read.long))))

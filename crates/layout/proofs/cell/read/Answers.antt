use Rattle.layout.proofs.Laid.{cell_read, cell_past}
use Rattle.layout.proofs.cell.read.Goals as goal

pub returns-then-i-size : goal.returns-then-i-size
returns-then-i-size c = λ mem. rw c.row-start.ensures.0 (cell_read c.args.file
    c.args.files.now mem c.args.i (rw (← c.row-start.ensures.1)
    c.if-i-size.true))

pub returns : goal.returns
returns c = λ mem. cell_past c.args.file c.args.files.now mem c.args.i
    (rw (← c.row-start.ensures.1) c.if-i-size.false)

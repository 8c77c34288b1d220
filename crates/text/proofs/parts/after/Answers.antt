use Rattle.text.proofs.Scans.{behind, nothing_behind}
use Rattle.text.proofs.parts.after.Goals as goal

pub returns-then-n-text : goal.returns-then-n-text
returns-then-n-text c =
    behind c.args.text.now c.args.b _
    c.find-n.ensures.0

pub returns : goal.returns
returns c =
    nothing_behind c.args.text.now c.args.b _
    c.find-n.ensures.0 c.if-n-text.false

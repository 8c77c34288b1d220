use mathlib.Core.Path.{◌∙◌}
use native.Mathlib.Omega.{arith}
use Rattle.layout.proofs.EndWords.{end_read, end_past}
use Rattle.layout.proofs.ends.end_of.Goals as goal

pub returns-then-i-lt-BUFFERS : goal.returns-then-i-lt-BUFFERS
returns-then-i-lt-BUFFERS c =
    c.from_words.ensures ∙ end_read c.args.files.now c.args.i c.if-i-lt-BUFFERS.true (omega arith)

pub returns : goal.returns
returns c = end_past c.args.files.now c.args.i c.if-i-lt-BUFFERS.false

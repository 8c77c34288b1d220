use Rattle.std.proofs.Common.{le-ltb, lt-ltb}
use Rattle.word.specs.Shifter.{right}
use Rattle.word.proofs.shifter.right.Goals as goal

pub returns-then-k-lt32 : goal.returns-then-k-lt32
unfolding right
returns-then-k-lt32 c = rw (lt-ltb _ _ c.if-k-lt32.true)

pub returns-else-k-lt32 : goal.returns-else-k-lt32
unfolding right
returns-else-k-lt32 c = rw (le-ltb _ _ c.if-k-lt32.false)

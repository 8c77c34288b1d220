use Rattle.std.proofs.Common.{le-ltb, lt-ltb}
use Rattle.word.specs.Shifter.{left}
use Rattle.word.proofs.shifter.left.Goals as goal

pub returns-then-k-lt32 : goal.returns-then-k-lt32
unfolding left
returns-then-k-lt32 c = rw (lt-ltb _ _ c.if-k-lt32.true)

pub returns-else-k-lt32 : goal.returns-else-k-lt32
unfolding left
returns-else-k-lt32 c = rw (le-ltb _ _ c.if-k-lt32.false)

use mathlib.Core.Path.{refl, sym}
use native.Mathlib.Omega.{arith}
use Rattle.bits.specs.Flags.{flag}
use Rattle.bits.proofs.Words.{flag_past}
use Rattle.bits.proofs.flags.flag.Goals as goal

pub returns-then-i-lt32 : goal.returns-then-i-lt32
unfolding flag
returns-then-i-lt32 c = refl

pub returns-else-i-lt32 : goal.returns-else-i-lt32
unfolding flag
returns-else-i-lt32 c = sym (flag_past c.args.i c.args.w c.if-i-lt32.false (omega arith))

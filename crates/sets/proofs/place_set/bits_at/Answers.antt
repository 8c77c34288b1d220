use Prim.Native.Nat.{◌%◌}
use native.Mathlib.Omega.{arith}
use lib.Pow.{pow_pos}
use Rattle.bits.proofs.Words.{one_shl}
use Rattle.sets.specs.PlaceSets.{bits_at}
use Rattle.sets.proofs.place_set.bits_at.Goals as goal

pub overflow_sub-result : goal.overflow_sub-result
unfolding bits_at
overflow_sub-result c = let n = c.args.count % 64 in omega (arith, one_shl n 64 (omega arith), pow_pos n)

pub returns : goal.returns
unfolding bits_at
returns c = rw (one_shl (c.args.count % 64) 64 (omega arith))

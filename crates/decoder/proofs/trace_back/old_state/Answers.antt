use mathlib.Core.Path.{◌≡◌}
use Prim.Native.Nat.{ℕ, zero, suc, ◌+◌, ◌*◌, ◌/◌, ◌%◌, ◌^◌, ◌<◌}
use native.Mathlib.Omega.{arith}
use lib.Dec.{eqb}
use Rattle.bits.specs.Flags.{flag}
use Rattle.decoder.specs.Survivors.{chosen}
use Rattle.decoder.proofs.trace_back.old_state.Goals as goal

named : (s y : ℕ) → y < 2 → s / 2 + 4 * y ≡ chosen (eqb y 1) s
named s zero h = omega arith
named s (suc zero) h = omega arith
named s (suc (suc y)) h = absurd (omega arith)

pub overflow_mul-result : goal.overflow_mul-result
overflow_mul-result c = omega arith

pub overflow_add-result : goal.overflow_add-result
overflow_add-result c = omega arith

pub returns : goal.returns
unfolding flag
returns c = (named c.args.s (c.args.decisions / 2 ^ c.args.s % 2) (omega arith), omega arith)

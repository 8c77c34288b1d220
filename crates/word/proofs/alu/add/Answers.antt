use Rattle.std.proofs.Common.{◌+ℤ◌}
use Rattle.word.specs.Alu.{added}
use Rattle.word.proofs.Sums.{over_is}
use Rattle.word.proofs.alu.add.Goals as goal

pub returns : goal.returns
unfolding added
returns c = rw (
  c.with_flags.ensures,
  over_is ◌+ℤ◌ c.args.a c.args.b _ _ _ c.signed.ensures c.signed.type_inv c.signed-2.ensures c.signed-2.type_inv c.saturated_sum-s.ensures,
  c.sum_carries.ensures,
)

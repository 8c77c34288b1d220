use Rattle.std.proofs.Common.{◌+ℤ◌, rules}
use Rattle.word.specs.Alu.{added_sat}
use Rattle.word.proofs.Sums.{over_is, word_is}
use Rattle.word.proofs.alu.add_saturating.Goals as goal

pub returns : goal.returns
unfolding added_sat
returns c = rw (
  c.with_flags.ensures,
  c.word.ensures,
  over_is ◌+ℤ◌ c.args.a c.args.b _ _ _ c.signed.ensures c.signed.type_inv c.signed-2.ensures c.signed-2.type_inv c.saturated_sum-s.ensures,
  word_is ◌+ℤ◌ c.args.a c.args.b _ _ _ c.signed.ensures c.signed.type_inv c.signed-2.ensures c.signed-2.type_inv c.saturated_sum-s.ensures (search rules),
  c.sum_carries.ensures,
)

use Rattle.std.proofs.Common.{◌-ℤ◌, rules}
use Rattle.word.specs.Alu.{subtracted_sat}
use Rattle.word.proofs.Sums.{over_is, word_is}
use Rattle.word.proofs.alu.subtract_saturating.Goals as goal

pub returns : goal.returns
unfolding subtracted_sat
returns c = rw (
  c.with_flags.ensures,
  c.word.ensures,
  over_is ◌-ℤ◌ c.args.a c.args.b _ _ _ c.signed.ensures c.signed.type_inv c.signed-2.ensures c.signed-2.type_inv c.saturated_difference-s.ensures,
  word_is ◌-ℤ◌ c.args.a c.args.b _ _ _ c.signed.ensures c.signed.type_inv c.signed-2.ensures c.signed-2.type_inv c.saturated_difference-s.ensures (search rules),
  c.difference_carries.ensures,
)

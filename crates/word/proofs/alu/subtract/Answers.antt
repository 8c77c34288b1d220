use Rattle.std.proofs.Common.{◌≡◌, ◌+◌, ◌-◌, ◌%◌, ◌^◌, ◌-ℤ◌, arith}
use Rattle.word.specs.Alu.{subtracted}
use Rattle.word.proofs.Sums.{over_is}
use Rattle.word.proofs.alu.subtract.Goals as goal

pub returns : goal.returns
unfolding subtracted
returns c =
    let e : (c.args.a + (2 ^ 32 - c.args.b)) % 2 ^ 32 ≡ (c.args.a + (2 ^ 32 - 1 - c.args.b) + 1) % 2 ^ 32 = omega arith in
    rw (
      c.with_flags.ensures,
      over_is ◌-ℤ◌ c.args.a c.args.b _ _ _ c.signed.ensures c.signed.type_inv c.signed-2.ensures c.signed-2.type_inv c.saturated_difference-s.ensures,
      c.difference_carries.ensures,
      e,
    )

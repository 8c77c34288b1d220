use Rattle.std.proofs.Common.{◌≡◌, ◌+ℤ◌, arith}
use mir.Syntax.{w64}
use mir.Val.{to_z, of_z}
use Rattle.std.proofs.lemmas.Int.{ints}
use Rattle.word.proofs.Shifts.{mean_read}
use Rattle.word.proofs.ialu.mean.Goals as goal

pub returns : goal.returns
returns c =
    let exact : to_z w64 (of_z w64 (to_z w64 (of_z w64 c.from.result) +ℤ to_z w64 (of_z w64 c.from-2.result))) ≡ c.signed.result +ℤ c.signed-2.result = omega (arith, ints) in
    rw (
      c.word.ensures,
      exact,
      mean_read (c.signed.result +ℤ c.signed-2.result) (omega (arith, ints)) (omega (arith, ints)),
      c.signed.ensures,
      c.signed-2.ensures,
    )

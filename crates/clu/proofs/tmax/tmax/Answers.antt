use mathlib.Core.Path.{◌≡◌}
use native.Mathlib.Omega.{arith}
use lib.IntN.{pos, ◌+ℤ◌}
use mir.Syntax.{w64}
use mir.Val.{to_z, of_z}
use Rattle.std.proofs.lemmas.Int.{ints}
use Rattle.bits.proofs.SignedWords.{read_is}
use Rattle.clu.specs.Tmax.{tmax}
use Rattle.clu.proofs.Lanes.{max_is}
use Rattle.clu.proofs.tmax.tmax.Goals as goal

pub returns : goal.returns
unfolding tmax
returns c =
    let s = c.args in
    let e : to_z w64 (of_z w64 (to_z w64 (of_z w64 c.from.result) +ℤ to_z w64 (of_z w64 c.from-2.result))) ≡ c.max.result +ℤ pos c.correction-entry.result = omega (arith, ints) in
    rw (
      c.saturate.ensures,
      e,
      c.max.ensures.value,
      c.correction-entry.ensures,
      c.distance.ensures,
      read_is s.a c.ranges.a.sfits,
      read_is s.b c.ranges.b.sfits,
      max_is s.a s.b,
    )

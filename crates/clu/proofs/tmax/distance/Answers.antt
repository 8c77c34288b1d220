use mathlib.Core.Path.{◌≡◌}
use native.Mathlib.Omega.{arith}
use lib.IntN.{◌-ℤ◌}
use mir.Syntax.{w64}
use mir.Val.{to_z, of_z}
use Rattle.std.proofs.lemmas.Int.{ints}
use Rattle.clu.proofs.Lanes.{below_is}
use Rattle.clu.proofs.tmax.distance.Goals as goal

pub returns-then-d-lt0 : goal.returns-then-d-lt0
returns-then-d-lt0 c =
    let e : to_z w64 (of_z w64 (to_z w64 (of_z w64 c.from.result) -ℤ to_z w64 (of_z w64 c.from-2.result))) ≡ c.args.a -ℤ c.args.b = omega (arith, ints) in
    rw e (below_is (c.args.a -ℤ c.args.b) (omega (arith, ints)) (rw e at c.if-d-lt0.true))

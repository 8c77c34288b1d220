-- Maxima, distances and shorts, as the code computes them.
use mathlib.Core.Path.{◌≡◌, refl, ap}
use mathlib.Core.Bool.{Bool, true, false}
use Prim.Native.Nat.{ℕ, ◌%◌, ◌^◌}
use native.Mathlib.Omega.{arith}
use lib.IntN.{ℤ, pos, negsuc, nat_abs, neg_ℤ, ◌-ℤ◌}
use lib.Signed.{lt_z, ◌≤ℤ◌}
use mir.Syntax.{w64}
use mir.Val.{to_z, of_z}
use Rattle.std.specs.Int.{int_max}
use Rattle.std.proofs.lemmas.Int.{ints, clamps}
use Rattle.bits.specs.Pick.{pick}
use Rattle.bits.specs.Signed.{signed, wrap}
use Rattle.word.specs.Alu.{max_signed}
use Rattle.clu.specs.Tmax.{max_z, distance}

pub max_is : (x y : ℤ) → int_max x y ≡ max_z x y
unfolding max_z
max_is x y = grind (arith, ints, clamps)

-- the ALU's maximum is that of the trellis
pub max_signed_is : (a b : ℕ) → signed 32 (max_signed a b) ≡ max_z (signed 32 a) (signed 32 b)
unfolding max_signed max_z
max_signed_is a b = pick_signed (lt_z (signed 32 a) (signed 32 b)) b a
  where
    pick_signed : (t : Bool) (a b : ℕ) → signed 32 (pick t a b) ≡ pick t (signed 32 a) (signed 32 b)
    pick_signed true a b = refl
    pick_signed false a b = refl

abbrev wide : ℤ → ℤ
wide z = to_z w64 (of_z w64 z)

pub below_is : (d : ℤ) → neg_ℤ (pos (2 ^ 32)) ≤ℤ d → lt_z d (pos 0) ≡ true → nat_abs (wide (wide (pos 0 -ℤ d) -ℤ pos 1)) ≡ distance d
below_is (pos n) f h = absurd (omega (arith, ints))
below_is (negsuc n) f h =
    let e : wide (wide (pos 0 -ℤ negsuc n) -ℤ pos 1) ≡ pos n = omega (arith, ints) in
    ap nat_abs e

pub wrap_low : (z : ℤ) → wrap 32 z % 2 ^ 16 ≡ wrap 16 z
unfolding wrap
wrap_low (pos k) = omega arith
wrap_low (negsuc k) = omega arith

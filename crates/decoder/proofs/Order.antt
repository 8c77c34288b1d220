-- Integers: order under sums, the larger of two, sizes.
use mathlib.Core.Path.{◌≡◌}
use Prim.Native.Nat.{◌+◌, ◌≤◌}
use native.Mathlib.Omega.{arith}
use lib.IntN.{ℤ, nat_abs, ◌+ℤ◌, ◌-ℤ◌}
use lib.Signed.{lt_z, ◌≤ℤ◌}
use Rattle.std.proofs.lemmas.Int.{ints}
use Rattle.slots.proofs.Picks.{picked}
use Rattle.clu.specs.Tmax.{max_z}

-- a sum keeps the order of what it is added to
pub sum_le : (x y z : ℤ) → x ≤ℤ y → (x +ℤ z) ≤ℤ (y +ℤ z)
sum_le x y z h = omega (arith, ints)

pub ≤ℤ-trans : (x y z : ℤ) → x ≤ℤ y → y ≤ℤ z → x ≤ℤ z
≤ℤ-trans x y z h k = omega (arith, ints)

pub ≤ℤ-antisym : (x y : ℤ) → x ≤ℤ y → y ≤ℤ x → x ≡ y
≤ℤ-antisym x y h k = omega (arith, ints)

-- ---- the larger of two

pub max_first : (x y : ℤ) → x ≤ℤ max_z x y
unfolding max_z
max_first x y = grind (arith, ints)

pub max_second : (x y : ℤ) → y ≤ℤ max_z x y
unfolding max_z
max_second x y = grind (arith, ints)

-- it is one of them
pub max_either : (P : ℤ → Type 0) (x y : ℤ) → P x → P y → P (max_z x y)
unfolding max_z
max_either P x y h k = picked P (lt_z x y) y x (λ _. k) (λ _. h)

-- ---- sizes

pub sum_size : (x y : ℤ) → nat_abs (x +ℤ y) ≤ nat_abs x + nat_abs y
sum_size x y = omega (arith, ints)

pub difference_size : (x y : ℤ) → nat_abs (x -ℤ y) ≤ nat_abs x + nat_abs y
difference_size x y = omega (arith, ints)

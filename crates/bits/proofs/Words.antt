-- Laws of words: shifts, rotation, counts.
use mathlib.Core.Path.{◌≡◌, ap, ◌∙◌, subst}
use mathlib.Core.Bool.{false}
use Prim.Native.Nat.{ℕ, zero, suc, ◌+◌, ◌-◌, ◌*◌, ◌/◌, ◌%◌, ◌^◌, ◌≤◌, ◌<◌}
use native.Mathlib.Nat.{mul-mod_left, one-mul, mod-eq_of_lt, sub-add_cancel, le_of_lt, lt_of_lt_of_le, add-zero, div-eq_of_lt}
use native.Mathlib.Omega.{arith}
use lib.Count.{ones, ones_in, ones_step}
use lib.Pow.{pow-lt, pow_mono, mod-pow-add, shl-shr}
use Rattle.bits.specs.Flags.{flag}

-- one bit, shifted to place k of w
pub one_shl : (k w : ℕ) → k < w → 1 * 2 ^ k % 2 ^ w ≡ 2 ^ k
one_shl k w h = rw one-mul (mod-eq_of_lt (pow-lt h))

-- what a left shift by k keeps: the low j bits, where j and k make 32
shl_keeps' : (a j k : ℕ) → a * 2 ^ k % 2 ^ (j + k) ≡ a % 2 ^ j * 2 ^ k
shl_keeps' a j k = rw (mod-pow-add, shl-shr, mul-mod_left, add-zero)

pub shl_keeps : (a k : ℕ) → k < 32 → a * 2 ^ k % 2 ^ 32 ≡ a % 2 ^ (32 - k) * 2 ^ k
shl_keeps a k h =
    subst (λ (n : ℕ). a * 2 ^ k % 2 ^ n ≡ a % 2 ^ (32 - k) * 2 ^ k) (sub-add_cancel (le_of_lt h)) (shl_keeps' a (32 - k) k)

-- the set bits of a number of k bits, counted in k steps
pub ones_in_lem : (k n : ℕ) → n < 2 ^ k → ones n ≡ ones_in k n
unfolding ones ones_in
ones_in_lem zero n h = let e : n ≡ 0 = omega arith in ap ones e
ones_in_lem (suc k) n h = ones_step n ∙ ap (λ (x : ℕ). n % 2 + x) (ones_in_lem k (n / 2) (omega arith))

-- a flag past a word's bits is clear
pub flag_past : (i w : ℕ) → 32 ≤ i → w < 2 ^ 32 → flag i w ≡ false
unfolding flag
flag_past i w h l = rw (div-eq_of_lt {n = w} {m = 2 ^ i} (lt_of_lt_of_le l (pow_mono {i = 32} {j = i} h)))

-- DESPREAD.
use Rattle.std.specs.Prelude.{ℕ, zero, suc, ◌+◌, ◌*◌, ◌/◌, ◌%◌, ◌^◌, Bool, List, ℤ, pos, negsuc, ◌+ℤ◌, ◌-ℤ◌, ◌*ℤ◌, get_or}
use Rattle.bits.specs.Pick.{pick}
use Rattle.bits.specs.Signed.{signed, wrap}
use Rattle.bits.specs.Flags.{flag}
use Rattle.clu.specs.declared.despread.Pair.{Pair}

-- Dk: the k-th 16-bit part of the quad from the low end, lowest register lowest
unfoldable pub part : List ℕ → ℕ → ℕ
part quad k = get_or quad (k / 2) 0 / 2 ^ (16 * (k % 2)) % 2 ^ 16

-- DkI its low, DkQ its high signed byte
unfoldable pub d_i : List ℕ → ℕ → ℤ
d_i quad k = signed 8 (part quad k % 2 ^ 8)

unfoldable pub d_q : List ℕ → ℕ → ℤ
d_q quad k = signed 8 (part quad k / 2 ^ 8)

-- clear +1, set -1
abbrev pub plus_minus : Bool → ℤ
plus_minus set = pick set (negsuc 0) (pos 1)

-- BkI, BkQ: bits 2k, 2k+1 of the pair, which for k = 0-7 are bits of its low register t
unfoldable pub b_i : ℕ → ℕ → ℤ
b_i t k = plus_minus (flag (2 * k) t)

unfoldable pub b_q : ℕ → ℕ → ℤ
b_q t k = plus_minus (flag (2 * k + 1) t)

-- BkI·DkI − BkQ·DkQ, and BkI·DkQ + BkQ·DkI
unfoldable pub real : List ℕ → ℕ → ℕ → ℤ
real quad t k = b_i t k *ℤ d_i quad k -ℤ b_q t k *ℤ d_q quad k

unfoldable pub imaginary : List ℕ → ℕ → ℕ → ℤ
imaginary quad t k = b_i t k *ℤ d_q quad k +ℤ b_q t k *ℤ d_i quad k

-- the sum of f over the n numbers from k on
unfoldable pub total : (ℕ → ℤ) → ℕ → ℕ → ℤ
total f k zero = pos 0
total f k (suc n) = total f k n +ℤ f (k + n)

-- DESPREAD over the n parts from k on: the real sum is the low short, the imaginary sum the high one
unfoldable pub despread : List ℕ → ℕ → ℕ → ℕ → ℕ
despread quad t k n = wrap 16 (total (real quad t) k n) + wrap 16 (total (imaginary quad t) k n) * 2 ^ 16

-- The pair shifts right 16, zeros entering
abbrev pub shifted : Pair → ℕ
shifted p = (p.low + p.high * 2 ^ 32) / 2 ^ 16

unfoldable pub shifted_pair : Pair → Pair
shifted_pair p = record { low = shifted p % 2 ^ 32; high = shifted p / 2 ^ 32 }

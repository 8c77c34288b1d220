-- Laws of single bits under shifts.
use Rattle.std.proofs.Common.{◌≡◌, ℕ, zero, suc, ◌+◌, ◌-◌, ◌*◌, ◌/◌, ◌%◌, ◌^◌, ◌<◌, min, max, sym, ap, ◌∙◌, subst, add-zero, add_comm, pow-suc, div-one, add-one, arith, pow_pos, pow-add, shr-shr}
use native.Mathlib.Nat.{add-mul-div_right, zero-div}
use lib.Pow.{shl-shr, field, mod-mod-pow}
use Rattle.word.specs.Swaps.{bit_at}

pub bit_shr : (d i w : ℕ) → bit_at i (w / 2 ^ d) ≡ bit_at (i + d) w
bit_shr d i w = ap (λ (n : ℕ). n % 2) (shr-shr w d i ∙ ap (λ (n : ℕ). w / 2 ^ n) (add_comm d i))

-- the low bits of a word
bit_mod : (i j w : ℕ) → bit_at i (w % 2 ^ (suc j + i)) ≡ bit_at i w
bit_mod i j w =
    ap (λ (n : ℕ). n % 2) (field w (suc j) i)
    ∙ ap (λ (p : ℕ). w / 2 ^ i % 2 ^ p % 2) (sym (add-one j))
    ∙ mod-mod-pow (w / 2 ^ i) j 1

bit_low : (i n w : ℕ) → i < n → bit_at i (w % 2 ^ n) ≡ bit_at i w
bit_low i n w h =
    let e : suc (n - suc i) + i ≡ n = omega arith in
    subst (λ (p : ℕ). bit_at i (w % 2 ^ p) ≡ bit_at i w) e (bit_mod i (n - suc i) w)

pub bit_shl : (d i w : ℕ) → i + d < 32 → bit_at (i + d) (w * 2 ^ d % 2 ^ 32) ≡ bit_at i w
bit_shl d i w h = bit_low (i + d) 32 (w * 2 ^ d) h ∙ sym (bit_shr d i (w * 2 ^ d)) ∙ ap (bit_at i) (shl-shr w d)

-- what stands more than i places up does not reach bit i
pub bit_below : (i j b r : ℕ) → bit_at i (b * 2 ^ (i + suc j) + r) ≡ bit_at i r
bit_below i j b r =
    ap (λ (n : ℕ). n / 2 ^ i % 2) (e ∙ add_comm (b * 2 ^ j * 2 * 2 ^ i) r)
    ∙ ap (λ (n : ℕ). n % 2) (add-mul-div_right r (b * 2 ^ j * 2) (pow_pos i))
    ∙ even (b * 2 ^ j) (r / 2 ^ i)
  where
    e : b * 2 ^ (i + suc j) + r ≡ b * 2 ^ j * 2 * 2 ^ i + r
    e = rw (pow-add, pow-suc) (omega arith)

    even : (x y : ℕ) → (y + x * 2) % 2 ≡ y % 2
    even x y = omega arith

pub bit_shl_low : (d i w : ℕ) → i < d → i < 32 → bit_at i (w * 2 ^ d % 2 ^ 32) ≡ 0
bit_shl_low d i w l h =
    let e : i + suc (d - suc i) ≡ d = omega arith in
    bit_low i 32 (w * 2 ^ d) h
    ∙ ap (λ (n : ℕ). bit_at i (w * 2 ^ n)) (sym e)
    ∙ ap (bit_at i) (sym (add-zero (w * 2 ^ (i + suc (d - suc i)))))
    ∙ bit_below i (d - suc i) w 0
    ∙ ap (λ (n : ℕ). n % 2) (zero-div (2 ^ i))

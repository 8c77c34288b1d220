-- Laws of the bit reversal.
use Rattle.std.proofs.Common.{◌≡◌, ℕ, zero, suc, ◌+◌, ◌-◌, ◌*◌, ◌/◌, ◌%◌, ◌^◌, ◌<◌, ◌≤◌, sym, ap, ◌∙◌, div-one, one-add, arith, shr-shr}
use lib.Arith.{digits_div}
use Rattle.word.specs.Addresses.{reverse_bits}
use Rattle.word.proofs.BitLaws.{bit_below}

-- a bit b above a number x of k bits
bit_above : (k b x : ℕ) → b ≤ 1 → x < 2 ^ k → b * 2 ^ k + x < 2 ^ suc k
bit_above k zero x h l = omega arith
bit_above k (suc zero) x h l = omega arith
bit_above k (suc (suc b)) x h l = absurd (omega arith)

pub reversed_lt : (k w : ℕ) → reverse_bits k w < 2 ^ k
unfolding reverse_bits
reversed_lt zero w = omega arith
reversed_lt (suc k) w = bit_above k (w % 2) (reverse_bits k (w / 2)) (omega arith) (reversed_lt k (w / 2))

-- ---- bit i of the reversal is bit 31 - i

bit_top : (k b r : ℕ) → b ≤ 1 → r < 2 ^ k → (b * 2 ^ k + r) / 2 ^ k % 2 ≡ b
bit_top k b r h l = rw (digits_div b l) (omega arith)

shr_suc : (w m : ℕ) → w / 2 / 2 ^ m ≡ w / 2 ^ suc m
shr_suc w m = shr-shr w 1 m ∙ ap (λ (n : ℕ). w / 2 ^ n) (one-add m)

bit_of : (k i j w : ℕ) → i + suc j ≡ k → reverse_bits k w / 2 ^ i % 2 ≡ w / 2 ^ j % 2
unfolding reverse_bits
bit_of zero i j w e = absurd (omega arith)
bit_of (suc k) i zero w e =
    let e' : i ≡ k = omega arith in
    rw e' (bit_top k (w % 2) (reverse_bits k (w / 2)) (omega arith) (reversed_lt k (w / 2)) ∙ ap (λ (n : ℕ). n % 2)
    (sym (div-one w)))
bit_of (suc k) i (suc j) w e =
    let e' : k ≡ i + suc j = omega arith in
    ap (λ (n : ℕ). (w % 2 * 2 ^ n + reverse_bits k (w / 2)) / 2 ^ i % 2) e'
    ∙ bit_below i j (w % 2) (reverse_bits k (w / 2))
    ∙ bit_of k i j (w / 2) (sym e')
    ∙ ap (λ (n : ℕ). n % 2) (shr_suc w j)

pub reversed_bit : (w i : ℕ) → i < 32 → reverse_bits 32 w / 2 ^ i % 2 ≡ w / 2 ^ (31 - i) % 2
reversed_bit w i h = bit_of 32 i (31 - i) w (omega arith)

-- What the digits of numbers tell of sets of numbers.
use mathlib.Core.Path.{◌≡◌, refl, sym, ap, ap₂, ◌∙◌}
use mathlib.Core.Bool.{Bool, true, false, not, ◌||◌}
use Prim.Native.Nat.{ℕ, zero, suc, ◌+◌, ◌-◌, ◌*◌, ◌/◌, ◌%◌, ◌^◌, ◌<◌, min, max}
use native.Mathlib.Nat.{zero-min, zero-max, min-zero, max-zero, suc-min-suc, suc-max-suc, one-mul, pow-suc, mul_comm, mul_assoc, suc-mul}
use native.Mathlib.Omega.{arith}
use lib.Arith.{bin_ind}
use lib.Pow.{pow_pos, pow-lt}
use lib.Bits.{bit_and, bit_or, and_step, or_step, and_shr, or_shr, or_add_and, and_le_l, and_le_r, and_comm, and_self, and_shifted, or_shifted_r}
use lib.Dec.{eqb}
use borrow.Author.Tests.{eq-eqb, ne_eqb}
use Rattle.bits.proofs.Integers.{by_order}
use Rattle.bits.proofs.Digits.{and_odd, or_odd}
use Rattle.sets.specs.PlaceSets.{run}

-- ---- digits

min_max : (x y z : ℕ) → min (max x y) z ≡ max (min x z) (min y z)
min_max zero y z = rw (zero-max y, zero-min z) (sym (zero-max (min y z)))
min_max (suc x) zero z = rw (max-zero (suc x), zero-min z) (sym (max-zero (min (suc x) z)))
min_max (suc x) (suc y) zero = rw (min-zero (max (suc x) (suc y)), min-zero (suc x), min-zero (suc y))
min_max (suc x) (suc y) (suc z) =
    rw (suc-max-suc x y, suc-min-suc (max x y) z, suc-min-suc x z, suc-min-suc y z, suc-max-suc (min x z) (min y z))
    (ap suc (min_max x y z))

-- ---- laws of words

pub and_or : (a b c : ℕ) → bit_and (bit_or a b) c ≡ bit_or (bit_and a c) (bit_and b c)
and_or =
    bin_ind (λ (n : ℕ). (b c : ℕ) → bit_and (bit_or n b) c ≡ bit_or (bit_and n c) (bit_and b c)) (λ b c. refl)
    (λ n ih b c.
    and_step (bit_or n b) c
    ∙ ap₂ (λ (x y : ℕ). x * 2 + y)
    (ap (λ (x : ℕ). bit_and x (c / 2)) (or_shr n b 1) ∙ ih (b / 2) (c / 2)
    ∙ sym (ap₂ bit_or (and_shr n c 1) (and_shr b c 1)))
    (ap (λ (x : ℕ). min x (c % 2)) (or_odd n b) ∙ min_max (n % 2) (b % 2) (c % 2)
    ∙ sym (ap₂ max (and_odd n c) (and_odd b c)))
    ∙ sym (or_step (bit_and n c) (bit_and b c)))

-- a word with a bit
abbrev pub some_bit : ℕ → Bool
some_bit a = not (eqb a 0)

pub some_or : (a b : ℕ) → some_bit (bit_or a b) ≡ (some_bit a || some_bit b)
some_or zero b = refl
some_or (suc a) b =
    ap not (ne_eqb (bit_or (suc a) b) 0
    (λ e. omega (arith, or_add_and (suc a) b, and_le_l (suc a) b, and_le_r (suc a) b)))
    ∙ sym (ap (λ (t : Bool). not t || some_bit b) (ne_eqb (suc a) 0 (λ e. omega arith)))

pub some_power : (k : ℕ) → some_bit (2 ^ k) ≡ true
some_power k = ap not (ne_eqb (2 ^ k) 0 (λ e. omega (arith, pow_pos k)))

pub two_bits : (i j : ℕ) → some_bit (bit_and (2 ^ i) (2 ^ j)) ≡ eqb i j
two_bits i j =
    by_order (some_bit (bit_and (2 ^ i) (2 ^ j)) ≡ eqb i j) i j
    (λ l. by_order (some_bit (bit_and (2 ^ i) (2 ^ j)) ≡ eqb i j) j i
    (λ m. let e : i ≡ j = omega arith in rw (e, and_self (2 ^ j), some_power j, eq-eqb j j refl))
    (λ m. rw (and_comm (2 ^ i) (2 ^ j)) (apart j i m) ∙ sym (ne_eqb i j (λ e. omega arith))))
    (λ l. apart i j l ∙ sym (ne_eqb i j (λ e. omega arith)))
  where
    apart : (i j : ℕ) → j < i → some_bit (bit_and (2 ^ i) (2 ^ j)) ≡ false
    apart i j h = ap some_bit (ap (λ (x : ℕ). bit_and x (2 ^ j)) (sym (one-mul (2 ^ i))) ∙ and_shifted 1 i (2 ^ j) (pow-lt h))

-- a run is its first bit and the rest
pub run_step : (i n : ℕ) → run i (suc n) ≡ bit_or (2 ^ i) (run (suc i) n)
run_step i n =
    sym (or_shifted_r (2 ^ n - 1) (suc i) (2 ^ i) (pow-lt (omega arith))
    ∙ ap (λ (x : ℕ). (2 ^ n - 1) * x + 2 ^ i) (pow-suc 2 i)
    ∙ go (2 ^ n) (2 ^ i) (pow_pos n)
    ∙ ap (λ (x : ℕ). (x - 1) * 2 ^ i) (sym (pow-suc 2 n)))
  where
    go : (p q : ℕ) → 0 < p → (p - 1) * (q * 2) + q ≡ (p * 2 - 1) * q
    go zero q h = elim h [ ]
    go (suc p) q h =
        let e : suc p - 1 ≡ p = omega arith in
        let d : suc p * 2 - 1 ≡ suc (p * 2) = omega arith in
        rw (e, d, suc-mul (p * 2) q) (ap (λ (x : ℕ). x + q) (ap (λ (x : ℕ). p * x) (mul_comm q 2) ∙ sym (mul_assoc p 2 q)))

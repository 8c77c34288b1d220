-- Laws of DESPREAD's terms and sums.
use mathlib.Core.Path.{◌≡◌, refl, ap}
use mathlib.Core.Bool.{true, false}
use mathlib.Core.List.{List}
use Prim.Native.Nat.{ℕ, suc, ◌+◌, ◌*◌, ◌^◌, ◌≤◌, ◌<◌}
use native.Mathlib.Nat.{one-mul}
use native.Mathlib.Omega.{arith}
use native.Mathlib.Numerals.{add-one}
use lib.IntN.{ℤ, pos, negsuc, nat_abs, neg_ℤ, ◌+ℤ◌, ◌*ℤ◌}
use Rattle.std.proofs.lemmas.Int.{ints}
use Rattle.bits.proofs.SignedWords.{read}
use Rattle.clu.specs.Despread.{part, plus_minus, total}

pub times_plus : (z : ℤ) → plus_minus false *ℤ z ≡ z
times_plus (pos n) = ap pos (one-mul n)
times_plus (negsuc n) = ap (λ (m : ℕ). neg_ℤ (pos m)) (one-mul (suc n))

pub times_minus : (z : ℤ) → plus_minus true *ℤ z ≡ neg_ℤ z
times_minus (pos n) = ap (λ (m : ℕ). neg_ℤ (pos m)) (one-mul n)
times_minus (negsuc n) = ap pos (one-mul (suc n))

pub part_lt : (quad : List ℕ) (k : ℕ) → part quad k < 2 ^ 16
unfolding part
part_lt quad k = omega arith

-- a sum over the n numbers from k on, at most 256 each in size
pub record Summed (f : ℕ → ℤ) (k n : ℕ) (s : ℤ) : Type 0 where
  pub value : s ≡ total f k n
  pub size : nat_abs s ≤ 256 * n

pub none : (f : ℕ → ℤ) (k : ℕ) → Summed f k 0 (pos 0)
unfolding total
none f k = record { value = refl; size = omega arith }

-- the sum as the code makes it
pub more : (f : ℕ → ℤ) (k n : ℕ) (s x : ℤ) → n < 8 → Summed f k n s → x ≡ f (k + n) → nat_abs x ≤ 256 →
    Summed f k (n + 1) (read (s +ℤ read x))
unfolding total
more f k n s x h i e b =
    let b' : nat_abs s ≤ 256 * n = i.size in
    let same : read (s +ℤ read x) ≡ s +ℤ x = omega (arith, ints) in
    record {
      value = rw (add-one, same, i.value, e);
      size = rw same (omega (arith, ints));
    }

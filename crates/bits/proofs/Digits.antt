-- The lowest binary digit of and, and of or; or and xor associate.
use mathlib.Core.Path.{◌≡◌, sym, ap₂, ◌∙◌}
use Prim.Native.Nat.{ℕ, ◌%◌, min, max}
use native.Mathlib.Omega.{arith}
use lib.Bits.{bit_and, bit_or, bit_xor}
use Rattle.std.proofs.lemmas.Nat.Bits.{bit_at_lowest, bit_at_and, bit_at_or, bit_at_xor, same_from_bits}

pub and_odd : (a b : ℕ) → bit_and a b % 2 ≡ min (a % 2) (b % 2)
and_odd a b = sym (bit_at_lowest (bit_and a b)) ∙ bit_at_and a b 0 ∙ ap₂ min (bit_at_lowest a) (bit_at_lowest b)

pub or_odd : (a b : ℕ) → bit_or a b % 2 ≡ max (a % 2) (b % 2)
or_odd a b = sym (bit_at_lowest (bit_or a b)) ∙ bit_at_or a b 0 ∙ ap₂ max (bit_at_lowest a) (bit_at_lowest b)

pub or_assoc : (a b c : ℕ) → bit_or (bit_or a b) c ≡ bit_or a (bit_or b c)
or_assoc a b c =
    same_from_bits _ _ (λ i. omega (
      arith,
      bit_at_or (bit_or a b) c i,
      bit_at_or a b i,
      bit_at_or a (bit_or b c) i,
      bit_at_or b c i,
    ))

pub xor_assoc : (a b c : ℕ) → bit_xor (bit_xor a b) c ≡ bit_xor a (bit_xor b c)
xor_assoc a b c =
    same_from_bits _ _ (λ i. omega (
      arith,
      bit_at_xor (bit_xor a b) c i,
      bit_at_xor a b i,
      bit_at_xor a (bit_xor b c) i,
      bit_at_xor b c i,
    ))

-- The lengths of one to four slots as the bits of a word: one test, computed over all lengths up to the longest.
use mathlib.Core.Path.{◌≡◌, refl}
use mathlib.Core.Bool.{Bool, true, false, ◌&&◌}
use Prim.Native.Nat.{ℕ, ◌/◌, ◌%◌, ◌^◌}
use native.Mathlib.Omega.{arith}
use lib.Dec.{eqb, leb}
use borrow.Author.Tests.{le-leb, lt-leb, ne_eqb}
use Rattle.bits.specs.Flags.{bit}
use Rattle.bits.proofs.Integers.{by_order}
use Rattle.bits.proofs.Table.{alike_at}
use Rattle.line.specs.Lines.{sized}

-- bit l of the word with bits 7, 14, 21 and 28
abbrev size_bit : ℕ → Bool
size_bit l = eqb (270549120 / 2 ^ (l % 32) % 2) 1

same_bit : (a b : Bool) → bit a ≡ bit b → a ≡ b
same_bit true true e = refl
same_bit true false e = absurd (omega arith)
same_bit false true e = absurd (omega arith)
same_bit false false e = refl

pub size_bits : (l : ℕ) → (leb l 28 && size_bit l) ≡ sized l
size_bits l =
    by_order ((leb l 28 && size_bit l) ≡ sized l) 29 l
    (λ h. rw (
      lt-leb l 28 (omega arith),
      ne_eqb l 7 (λ e. omega arith),
      ne_eqb l 14 (λ e. omega arith),
      ne_eqb l 21 (λ e. omega arith),
      ne_eqb l 28 (λ e. omega arith),
    ))
    (λ h. rw (le-leb l 28 (omega arith))
    (same_bit (size_bit l) (sized l) (alike_at (λ i. bit (size_bit i)) (λ i. bit (sized i)) 29 tt l h)))

-- Each flag is read back from its group's word as it was packed.
use mathlib.Core.Path.{◌≡◌, sym, ap, ◌∙◌}
use mathlib.Core.Bool.{Bool, true, false}
use Prim.Native.Nat.{ℕ, suc, ◌+◌, ◌*◌, ◌/◌, ◌%◌, ◌^◌}
use native.Mathlib.Numerals.{one-add}
use native.Mathlib.Omega.{arith}
use lib.Dec.{eqb}
use lib.Pow.{shr-shr}
use Rattle.bits.specs.Flags.{bit, flag_word, flag}

-- the lowest flag of a word, and the others, which are those of its half
pub flag_lowest : (f : Bool) (w : ℕ) → flag 0 (bit f + 2 * w) ≡ f
unfolding flag
flag_lowest true w = ap (λ (n : ℕ). eqb n 1) {x = (1 + 2 * w) / 1 % 2} {y = 1} (omega arith)
flag_lowest false w = ap (λ (n : ℕ). eqb n 1) {x = (0 + 2 * w) / 1 % 2} {y = 0} (omega arith)

half : (f : Bool) (w : ℕ) → (bit f + 2 * w) / 2 ≡ w
half true w = omega arith
half false w = omega arith

pub flag_next : (i : ℕ) (f : Bool) (w : ℕ) → flag (suc i) (bit f + 2 * w) ≡ flag i w
unfolding flag
flag_next i f w =
    ap (λ (n : ℕ). eqb ((bit f + 2 * w) / 2 ^ n % 2) 1) (sym (one-add i))
    ∙ ap (λ (n : ℕ). eqb (n % 2) 1) (sym (shr-shr (bit f + 2 * w) 1 i) ∙ ap (λ (n : ℕ). n / 2 ^ i) (half f w))

-- the word as halves within halves
nested : (a b c d : ℕ) → a + 2 * b + 4 * c + 8 * d ≡ a + 2 * (b + 2 * (c + 2 * (d + 2 * 0)))
nested a b c d = omega arith

module _ (f0 f1 f2 f3 : Bool) where
  read : (i : ℕ) → flag i (flag_word f0 f1 f2 f3) ≡ flag i (bit f0 + 2 * (bit f1 + 2 * (bit f2 + 2 * (bit f3 + 2 * 0))))
  unfolding flag_word
  read i = ap (flag i) (nested (bit f0) (bit f1) (bit f2) (bit f3))

  pub flags_read : (flag 0 (flag_word f0 f1 f2 f3) ≡ f0) × (flag 1 (flag_word f0 f1 f2 f3) ≡ f1)
      × (flag 2 (flag_word f0 f1 f2 f3) ≡ f2) × (flag 3 (flag_word f0 f1 f2 f3) ≡ f3)
  flags_read = (
    read 0 ∙ flag_lowest f0 _,
    read 1 ∙ flag_next 0 f0 _ ∙ flag_lowest f1 _,
    read 2 ∙ flag_next 1 f0 _ ∙ flag_next 0 f1 _ ∙ flag_lowest f2 _,
    read 3 ∙ flag_next 2 f0 _ ∙ flag_next 1 f1 _ ∙ flag_next 0 f2 (bit f3 + 2 * 0) ∙ flag_lowest f3 0,
  )

-- Shifts by a signed number of places, and rotation, as the code computes them.
use Rattle.std.proofs.Common.{◌≡◌, ℕ, zero, suc, ◌+◌, ◌-◌, ◌*◌, ◌/◌, ◌%◌, ◌^◌, ◌<◌, ◌≤◌, min, true, false, refl, sym, ap, ◌∙◌, ℤ, pos, negsuc, neg_ℤ, ◌≤ℤ◌, ◌<ℤ◌, arith, subst, lt_of_le_of_lt, le-ltb, lt-ltb, le-leb}
use borrow.Author.Tests.{lt-leb}
use lib.Bits.{bit_or, or_shifted, or_self}
use lib.IntN.{nat_abs}
use lib.Pow.{shr_le, shr_lt}
use lib.Signed.{shr_z, lt_z, mag}
use mir.Syntax.{w64}
use mir.Val.{to_z, of_z}
use Rattle.std.proofs.lemmas.Int.{ints}
use Rattle.bits.specs.Pick.{pick}
use Rattle.bits.specs.Signed.{signed, wrap, negative}
use Rattle.bits.proofs.Integers.{by_order}
use Rattle.bits.proofs.SignedWords.{read, read_is, signed_low, signed_high}
use Rattle.bits.proofs.Words.{shl_keeps}
use Rattle.word.specs.Shifter.{left, right_signed, shift, rotate}

-- by the signed word s, with either shift right
module _ (to_right : ℕ → ℕ → ℕ) (a s k m : ℕ) (z : ℤ) (e : z ≡ signed 32 s) (f : mag z < 2 ^ 31) (ek : k ≡ m)
    (em : m ≡ nat_abs (read z)) where
  places : k ≡ nat_abs z
  places = ek ∙ em ∙ ap nat_abs (read_is z f)

  at_left : (x : ℤ) → lt_z x (pos 0) ≡ false → left a (nat_abs x) ≡ shift to_right a x
  unfolding shift
  at_left (pos n) h = refl
  at_left (negsuc n) h = absurd (omega (arith, ints))

  at_right : (x : ℤ) → lt_z x (pos 0) ≡ true → to_right a (nat_abs x) ≡ shift to_right a x
  unfolding shift
  at_right (pos n) h = absurd (omega (arith, ints))
  at_right (negsuc n) h = ap (to_right a) (omega arith)

  pub shift_left : lt_z (read z) (pos 0) ≡ false → left a k ≡ shift to_right a (signed 32 s)
  shift_left h = ap (left a) places ∙ at_left z (rw (read_is z f) at h) ∙ ap (shift to_right a) e

  pub shift_right : lt_z (read z) (pos 0) ≡ true → to_right a k ≡ shift to_right a (signed 32 s)
  shift_right h = ap (to_right a) places ∙ at_right z (rw (read_is z f) at h) ∙ ap (shift to_right a) e

-- a value shifted right is read back as it is
pub shr_read : (z : ℤ) (k : ℕ) → mag z < 2 ^ 31 → read (shr_z z (2 ^ k)) ≡ shr_z z (2 ^ k)
shr_read z k f = read_is (shr_z z (2 ^ k)) (lt_of_le_of_lt (small z) f)
  where
    small : (x : ℤ) → mag (shr_z x (2 ^ k)) ≤ mag x
    small (pos n) = shr_le n k
    small (negsuc n) = shr_le n k

-- half of an exact sum, too
pub mean_read : (z : ℤ) → neg_ℤ (pos (2 ^ 32)) ≤ℤ z → z <ℤ pos (2 ^ 32) → read (to_z w64 (of_z w64 (shr_z z 2))) ≡ shr_z z 2
mean_read (pos n) f g = omega (arith, ints)
mean_read (negsuc n) f g = omega (arith, ints)

-- after 31 places only copies of the sign are left
pub right_is : (a k : ℕ) → a < 2 ^ 32 → wrap 32 (shr_z (signed 32 a) (2 ^ min k 31)) ≡ right_signed a k
unfolding right_signed wrap
right_is a k h =
    by_order (wrap 32 (shr_z (signed 32 a) (2 ^ min k 31)) ≡ right_signed a k) 32 k
    (λ l.
    let e : min k 31 ≡ 31 = omega arith in
    rw (le-ltb k 32 l, e)
    (by_order (wrap 32 (shr_z (signed 32 a) (2 ^ 31)) ≡ pick (negative a) (2 ^ 32 - 1) 0) (2 ^ 31) a
    (λ m. rw (signed_high a m h, le-leb (2 ^ 31) a m) (omega arith))
    (λ m. rw (signed_low a m, lt-leb (2 ^ 31) a m) (omega arith))))
    (λ l. rw (lt-ltb k 32 l) (ap (λ (n : ℕ). wrap 32 (shr_z (signed 32 a) (2 ^ n))) (omega arith)))

pub rotated : (a k : ℕ) → a < 2 ^ 32 → k < 32 →
    bit_or (a * 2 ^ (k % 32) % 2 ^ 32) (a / 2 ^ ((32 - k % 32) % 32)) ≡ rotate a k
unfolding rotate
rotated a zero h l =
    let x : a * 1 % 2 ^ 32 ≡ a = omega arith in
    let y : a / 1 ≡ a = omega arith in
    let z : a ≡ a % 2 ^ 32 * 1 + a / 2 ^ 32 = omega arith in
    rw (x, y) (or_self a ∙ z)
rotated a (suc k) h l =
    let e : suc k % 32 ≡ suc k = omega arith in
    let f : (32 - suc k) % 32 ≡ 32 - suc k = omega arith in
    let w : suc k + (32 - suc k) ≡ 32 = omega arith in
    rw (e, f, shl_keeps a (suc k) l)
    (or_shifted (a % 2 ^ (32 - suc k)) (suc k) (a / 2 ^ (32 - suc k)) (shr_lt (suc k) (32 - suc k)
    (subst (λ (n : ℕ). a < 2 ^ n) (sym w) h)))

-- Signed values of words, and saturated integers.
use mathlib.Core.Path.{◌≡◌, refl, sym, ap, ap₂, ◌∙◌}
use mathlib.Core.Bool.{Bool, ◌||◌}
use Prim.Native.Nat.{ℕ, suc, ◌+◌, ◌-◌, ◌*◌, ◌/◌, ◌%◌, ◌^◌, ◌≤◌, ◌<◌}
use native.Mathlib.Nat.{mod-lt, div-add-mod', add-mul-mod_self_left, div-lt_iff_lt-mul}
use native.Mathlib.Omega.{arith}
use lib.Arith.{digits_mod}
use lib.Dec.{ltb, lit≤}
use lib.IntN.{ℤ, pos, negsuc, neg_ℤ, sub_ℕ, ◌-ℤ◌}
use lib.Pow.{pow_pos}
use lib.Signed.{lt_z, le_z, mag}
use mir.Syntax.{w8, w16, w32, w64}
use mir.Val.{SFits, sel, to_z, of_z}
use borrow.Author.Tests.{lt-ltb, le-ltb}
use Rattle.std.specs.Int.{int_max, int_min}
use Rattle.std.proofs.lemmas.Int.{ints, clamps, to_z-of_z}
use Rattle.bits.specs.Pick.{pick}
use Rattle.bits.specs.Signed.{signed, wrap, overflows, saturate}
use Rattle.bits.specs.Sums.{bits, sat}
use Rattle.bits.specs.declared.signed.Saturated.{Saturated}
use Rattle.bits.specs.declared.signed.Width.{Width}
use Rattle.bits.specs.declared.signed.Width.TheVariants.{Short, Word}
use Rattle.bits.proofs.Integers.{by_order, sub_ge, sub_lt, pos_sub}

-- ---- a word and its signed value

pub signed_low : (a : ℕ) → a < 2 ^ 31 → signed 32 a ≡ pos a
unfolding signed
signed_low a h = rw (lt-ltb a (2 ^ 31) h)

pub signed_high : (a : ℕ) → 2 ^ 31 ≤ a → a < 2 ^ 32 → signed 32 a ≡ negsuc (2 ^ 32 - suc a)
unfolding signed
signed_high a h u = rw (le-ltb a (2 ^ 31) h) (pos_sub a (2 ^ 32) ∙ sub_lt a (2 ^ 32) u)

-- the signed value of n bits, as a cast makes it; h is half the number of their values
cast_of : (n h a : ℕ) → 2 ^ (n - 1) ≡ h → a < 2 ^ n → sel (ltb a h) (pos a) (negsuc (2 ^ n - suc a)) ≡ signed n a
unfolding signed
cast_of n h a e u =
    rw e
    (by_order (sel (ltb a h) (pos a) (negsuc (2 ^ n - suc a)) ≡ pick (ltb a h) (pos a) (pos a -ℤ pos (2 ^ n))) h a
    (λ l. rw (le-ltb a h l) (sym (pos_sub a (2 ^ n) ∙ sub_lt a (2 ^ n) u)))
    (λ l. rw (lt-ltb a h l)))

pub cast_is : (a : ℕ) → a < 2 ^ 32 → to_z w32 a ≡ signed 32 a
cast_is a = cast_of 32 (2 ^ 31) a refl

pub cast16_is : (a : ℕ) → a < 2 ^ 16 → to_z w16 a ≡ signed 16 a
cast16_is a = cast_of 16 (2 ^ 15) a refl

pub cast8_is : (a : ℕ) → a < 2 ^ 8 → to_z w8 a ≡ signed 8 a
cast8_is a = cast_of 8 (2 ^ 7) a refl

pub word_is : (z : ℤ) → SFits w32 z → of_z w32 z ≡ wrap 32 z
unfolding wrap
word_is (pos k) f = omega (arith, f.sfits)
word_is (negsuc k) f = omega (arith, f.sfits)

-- a value of 32 bits, as it is read back from its bits
abbrev pub read : ℤ → ℤ
read z = to_z w32 (of_z w32 z)

pub read_is : (z : ℤ) → mag z < 2 ^ 31 → read z ≡ z
read_is z f = to_z-of_z w32 z (record { sfits = f })

-- ---- the low bits of an integer

-- of a number that carries it: k turns of 2 ^ n may be added
pub wrap_is : (n k x b y : ℕ) → y + b ≡ x + 2 ^ n * k → wrap n (sub_ℕ x b) ≡ y % 2 ^ n
unfolding wrap
wrap_is n k x b y e =
    by_order (wrap n (sub_ℕ x b) ≡ y % 2 ^ n) b x
    (λ l. rw (sub_ge x b l) (turns (2 ^ n) k (x - b) y (pow_pos n) (omega arith)))
    (λ l. rw (sub_lt x b l) (below (2 ^ n) k (b - suc x) y (pow_pos n) (omega arith)))
  where
    turns : (m k z y : ℕ) → 0 < m → y ≡ z + m * k → z % m ≡ y % m
    turns m k z y p e' = sym (ap (λ (u : ℕ). u % m) e' ∙ add-mul-mod_self_left z m k)

    digits : (m j q r z k y : ℕ) → r < m → q * m + r ≡ z → j + 1 + q ≡ k → y + suc z ≡ m * k → m - 1 - r ≡ y % m
    digits m j q r z k y hr ez ek ey =
        let e₁ : y ≡ j * m + (m - 1 - r) = omega (arith, ap (λ (u : ℕ). m * u) ek) in
        sym (ap (λ (u : ℕ). u % m) e₁ ∙ digits_mod j (omega arith))

    below : (m k z y : ℕ) → 0 < m → y + suc z ≡ m * k → m - 1 - z % m ≡ y % m
    below m k z y p e' =
        let hq : z / m < k = (div-lt_iff_lt-mul p).1 (omega arith) in
        digits m (k - 1 - z / m) (z / m) (z % m) z k y (mod-lt z p) (div-add-mod' z m) (omega arith) e'

-- the low bits of a word are those of its signed value
pub wrap32_signed : (a : ℕ) → a < 2 ^ 32 → wrap 32 (signed 32 a) ≡ a
unfolding wrap
wrap32_signed a h =
    by_order (wrap 32 (signed 32 a) ≡ a) (2 ^ 31) a
    (λ l. rw (signed_high a l h) (omega arith))
    (λ l. rw (signed_low a l) (omega arith))

pub wrap16_signed : (a : ℕ) → a < 2 ^ 32 → wrap 16 (signed 32 a) ≡ a % 2 ^ 16
unfolding wrap
wrap16_signed a h =
    by_order (wrap 16 (signed 32 a) ≡ a % 2 ^ 16) (2 ^ 31) a
    (λ l. rw (signed_high a l h) (omega arith))
    (λ l. rw (signed_low a l))

-- ---- saturation at n bits, h half the number of their values

module _ (n h : ℕ) (z x : ℤ) (e : 2 ^ (n - 1) ≡ h) (p : 1 ≤ h) (ex : x ≡ int_max (neg_ℤ (pos h)) (int_min z (pos h -ℤ pos 1))) where
  over_is : lt_z z (neg_ℤ (pos h)) || le_z (pos h) z ≡ overflows n z
  unfolding overflows
  over_is = rw e (grind (arith, ints))

  clamped_is : x ≡ saturate n z
  unfolding saturate
  clamped_is = rw e (grind (arith, ints, clamps))

  saturated_is : ◌≡◌ {A = Saturated} (record { value = x; over = lt_z z (neg_ℤ (pos h)) || le_z (pos h) z }) (sat n z)
  unfolding sat
  saturated_is = ap₂ (λ (v : ℤ) (o : Bool). record { value = v; over = o }) clamped_is over_is

abbrev wide : ℤ → ℤ
wide z = to_z w64 (of_z w64 z)

-- as the code computes it, at 64 bits
pub saturates : (n h : ℕ) (z k x : ℤ) → 2 ^ (n - 1) ≡ h → 1 ≤ h → h ≤ 2 ^ 31 → SFits w64 z → k ≡ pos h →
    x ≡ int_max (wide (pos 0 -ℤ wide k)) (int_min (wide z) (wide (wide k -ℤ pos 1))) →
    ◌≡◌ {A = Saturated} (record {
      value = to_z w32 (of_z w32 (wide x));
      over = lt_z (wide z) (wide (pos 0 -ℤ wide k)) || le_z (wide k) (wide z);
    }) (sat n z)
saturates n h z k x e p u f ek ex =
    rw (ez, eh, low, same) (saturated_is n h z x e p small)
  where
    ez : wide z ≡ z
    ez = to_z-of_z w64 z f

    eh : wide k ≡ pos h
    eh = rw ek (omega (arith, ints))

    low : wide (pos 0 -ℤ pos h) ≡ neg_ℤ (pos h)
    low = omega (arith, ints)

    high : wide (pos h -ℤ pos 1) ≡ pos h -ℤ pos 1
    high = omega (arith, ints)

    small : x ≡ int_max (neg_ℤ (pos h)) (int_min z (pos h -ℤ pos 1))
    small = rw (eh, low, ez, high) at ex

    same : to_z w32 (of_z w32 (wide x)) ≡ x
    same = omega (arith, ints, clamps)

pub half_size : (w : Width) → (1 ≤ 2 ^ (bits w - 1)) × (2 ^ (bits w - 1) ≤ 2 ^ 31)
half_size Short = (lit≤ tt, lit≤ tt)
half_size Word = (lit≤ tt, lit≤ tt)

-- ---- a saturated sum's fields, of a sum or difference of two words' signed values

pub over_of : (n : ℕ) (z : ℤ) (s : Saturated) → s ≡ sat n z → s.over ≡ overflows n z
unfolding sat
over_of n z s e = ap (λ (x : Saturated). x.over) e

pub value_of : (n : ℕ) (z : ℤ) (s : Saturated) → s ≡ sat n z → s.value ≡ saturate n z
unfolding sat
value_of n z s e = ap (λ (x : Saturated). x.value) e

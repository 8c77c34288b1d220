-- The circular address, as the code computes it.
use Rattle.std.proofs.Common.{◌≡◌, ℕ, ◌+◌, ◌-◌, ◌*◌, ◌%◌, ◌^◌, ◌<◌, Bool, true, false, ℤ, pos, ◌+ℤ◌, ◌-ℤ◌, refl, sym, ap, ◌∙◌, arith}
use lib.IntN.{sub_ℕ}
use lib.Signed.{lt_z, le_z}
use Rattle.bits.specs.Pick.{pick}
use Rattle.bits.specs.Signed.{signed, wrap}
use Rattle.word.specs.Addresses.{wrap_around}
use Rattle.bits.proofs.Integers.{by_order, sub_add, sub_sub, sub_eq, sub_lt, pos_is}
use Rattle.bits.proofs.SignedWords.{wrap_is, signed_low, signed_high}

wrap_pick : (t : Bool) (x y : ℤ) → wrap 32 (pick t x y) ≡ pick t (wrap 32 x) (wrap 32 y)
wrap_pick true x y = refl
wrap_pick false x y = refl

-- z is t less a number of turns
module _ (base len t j : ℕ) (hl : len < 2 ^ 32) (z : ℤ) (e : z ≡ sub_ℕ t (2 ^ 32 * j)) where
  plain : wrap 32 z ≡ t % 2 ^ 32
  plain = ap (wrap 32) e ∙ wrap_is 32 j t (2 ^ 32 * j) t refl

  plus : wrap 32 (z +ℤ pos len) ≡ (t % 2 ^ 32 + len) % 2 ^ 32
  plus =
      ap (λ (x : ℤ). wrap 32 (x +ℤ pos len)) e ∙ ap (λ (x : ℤ). wrap 32 (sub_ℕ t (2 ^ 32 * j) +ℤ x)) (pos_is len 0)
      ∙ ap (wrap 32) (sub_add t (2 ^ 32 * j) (len + 0) 0)
      ∙ wrap_is 32 j (t + (len + 0)) (2 ^ 32 * j + 0) (t + len) (omega arith) ∙ e'
    where
      e' : (t + len) % 2 ^ 32 ≡ (t % 2 ^ 32 + len) % 2 ^ 32
      e' = omega arith

  minus : wrap 32 (z -ℤ pos len) ≡ (t % 2 ^ 32 + (2 ^ 32 - len)) % 2 ^ 32
  minus =
      ap (λ (x : ℤ). wrap 32 (x -ℤ pos len)) e ∙ ap (λ (x : ℤ). wrap 32 (sub_ℕ t (2 ^ 32 * j) -ℤ x)) (pos_is len 0)
      ∙ ap (wrap 32) (sub_sub t (2 ^ 32 * j) (len + 0) 0)
      ∙ wrap_is 32 (j + 1) (t + 0) (2 ^ 32 * j + (len + 0)) (t + (2 ^ 32 - len)) (omega arith) ∙ e'
    where
      e' : (t + (2 ^ 32 - len)) % 2 ^ 32 ≡ (t % 2 ^ 32 + (2 ^ 32 - len)) % 2 ^ 32
      e' = omega arith

  around : pick (le_z (pos (base + len)) z) ((t % 2 ^ 32 + (2 ^ 32 - len)) % 2 ^ 32)
      (pick (lt_z z (pos base)) ((t % 2 ^ 32 + len) % 2 ^ 32) (t % 2 ^ 32)) ≡ wrap 32 (wrap_around base len z)
  unfolding wrap_around
  around = rw (wrap_pick, wrap_pick, plain, plus, minus)

exact_is : (index m : ℕ) → m < 2 ^ 32 → (P : Type 0) → ((j : ℕ) → pos index +ℤ signed 32 m ≡ sub_ℕ (index + m) (2 ^ 32 * j) → P) → P
exact_is index m h P f =
    by_order P (2 ^ 31) m
    (λ l. f 1 (ap (λ (x : ℤ). pos index +ℤ x) (signed_high m l h ∙ sym (sub_lt m (2 ^ 32) h))
    ∙ ap (λ (x : ℤ). x +ℤ sub_ℕ m (2 ^ 32)) (pos_is index 0) ∙ sub_add (index + 0) 0 m (2 ^ 32)
    ∙ sub_eq (index + 0 + m) (0 + 2 ^ 32) (index + m) (2 ^ 32 * 1) (omega arith)))
    (λ l. f 0 (ap (λ (x : ℤ). pos index +ℤ x) (signed_low m l) ∙ pos_is (index + m) 0
    ∙ sub_eq (index + m + 0) 0 (index + m) (2 ^ 32 * 0) (omega arith)))

-- the exact sum decides; the address is the wrapped sum, less or plus the length
pub wrap_around_is : (base len index m : ℕ) → m < 2 ^ 32 → len < 2 ^ 32 →
    pick (le_z (pos (base + len)) (pos index +ℤ signed 32 m)) (((index + m) % 2 ^ 32 + (2 ^ 32 - len)) % 2 ^ 32)
    (pick (lt_z (pos index +ℤ signed 32 m) (pos base)) (((index + m) % 2 ^ 32 + len) % 2 ^ 32) ((index + m) % 2 ^ 32))
    ≡ wrap 32 (wrap_around base len (pos index +ℤ signed 32 m))
wrap_around_is base len index m h hl =
    exact_is index m h _ (λ j e. around base len (index + m) j hl (pos index +ℤ signed 32 m) e)

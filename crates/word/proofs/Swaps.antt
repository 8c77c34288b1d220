-- The five swaps of the bit reversal: where each leaves the bits of the word.
use Rattle.std.proofs.Common.{◌≡◌, ℕ, zero, suc, ◌+◌, ◌-◌, ◌*◌, ◌/◌, ◌%◌, ◌^◌, ◌<◌, ◌≤◌, min, max, Bool, T, sym, refl, ap, ◌∙◌, subst, ap₂, arith}
use native.Mathlib.Nat.{add-div_right, div-eq_of_lt}
use lib.Bits.{bit_and, bit_or, bit_xor, xor_self, xor_zero_r, xor_lt}
use Rattle.std.proofs.lemmas.Nat.Bits.{bit_at_and, bit_at_or, same_from_bits_below}
use Rattle.bits.proofs.Digits.{xor_assoc}
use Rattle.bits.proofs.Integers.{by_order}
use Rattle.word.specs.Addresses.{reverse_bits}
use Rattle.word.specs.Swaps.{bit_at, Stands, InTurn}
use Rattle.word.proofs.BitLaws.{bit_shl, bit_shl_low, bit_shr}
use Rattle.word.proofs.Reversal.{reversed_bit, reversed_lt}
use Rattle.bits.proofs.Table.{alike, alike_at}

-- ---- one swap

-- the mask m has the fields of d bits with an even number
abbrev pub masks : ℕ → ℕ → Bool
masks d m = alike (λ i. bit_at i m) (λ i. 1 - i / d % 2) 32

in_mask : (d m : ℕ) → T (masks d m) → (i : ℕ) → i < 32 → bit_at i m ≡ 1 - i / d % 2
in_mask d m = alike_at (λ i. bit_at i m) (λ i. 1 - i / d % 2) 32

-- i xor d is the same place of the field beside
abbrev pub exchanges : ℕ → Bool
exchanges d = alike (λ i. bit_xor i d) (λ i. i + d - i / d % 2 * (2 * d)) 32

module _ (d m m' : ℕ) (positive : 0 < d) (small : d < 32) (t : T (masks d m)) (t' : T (masks d m'))
    (x : T (exchanges d)) where
  -- the fields of the first mask go up, and others come down to those of the second
  abbrev swapped : ℕ → ℕ
  swapped w = bit_or (bit_and w m * 2 ^ d % 2 ^ 32) (bit_and (w / 2 ^ d) m')

  beside : (i : ℕ) → i < 32 → bit_xor i d ≡ i + d - i / d % 2 * (2 * d)
  beside = alike_at (λ i. bit_xor i d) (λ i. i + d - i / d % 2 * (2 * d)) 32 x

  field_above : (i : ℕ) → (i + d) / d ≡ i / d + 1
  field_above i = add-div_right i positive

  field_below : (i : ℕ) → d ≤ i → i / d ≡ (i - d) / d + 1
  field_below i l =
      let e : i ≡ i - d + d = omega arith in
      ap (λ (n : ℕ). n / d) e ∙ field_above (i - d)

  moved_up : (w i : ℕ) → i + d < 32 → i / d % 2 ≡ 0 → bit_at (i + d) (swapped w) ≡ bit_at i w
  moved_up w i h e =
      bit_at_or (bit_and w m * 2 ^ d % 2 ^ 32) (bit_and (w / 2 ^ d) m') (i + d)
      ∙ ap₂ max (bit_shl d i (bit_and w m) h ∙ bit_at_and w m i) (bit_at_and (w / 2 ^ d) m' (i + d))
      ∙ omega (arith, in_mask d m t i (omega arith), in_mask d m' t' (i + d) h, field_above i)

  -- nothing is moved up into a field of the mask
  none_moved_up : (w i : ℕ) → i < 32 → i / d % 2 ≡ 0 → bit_at i (bit_and w m * 2 ^ d % 2 ^ 32) ≡ 0
  none_moved_up w i h e =
      by_order (bit_at i (bit_and w m * 2 ^ d % 2 ^ 32) ≡ 0) d i from_below (λ l. bit_shl_low d i (bit_and w m) l h)
    where
      from_below : d ≤ i → bit_at i (bit_and w m * 2 ^ d % 2 ^ 32) ≡ 0
      from_below l =
          let k : i - d + d ≡ i = omega arith in
          ap (λ (n : ℕ). bit_at n (bit_and w m * 2 ^ d % 2 ^ 32)) (sym k)
          ∙ bit_shl d (i - d) (bit_and w m) (omega arith)
          ∙ bit_at_and w m (i - d)
          ∙ omega (arith, in_mask d m t (i - d) (omega arith), field_below i l)

  moved_down : (w i : ℕ) → i + d < 32 → i / d % 2 ≡ 0 → bit_at i (swapped w) ≡ bit_at (i + d) w
  moved_down w i h e =
      bit_at_or (bit_and w m * 2 ^ d % 2 ^ 32) (bit_and (w / 2 ^ d) m') i
      ∙ ap₂ max (none_moved_up w i (omega arith) e) (bit_at_and (w / 2 ^ d) m' i ∙ ap (λ (b : ℕ). min b (bit_at i m')) (bit_shr d i w))
      ∙ omega (arith, in_mask d m' t' i (omega arith))

  pub swap_stands : (w : ℕ) → Stands d w (swapped w)
  swap_stands w i h = at (i / d % 2) refl
    where
      at : (b : ℕ) → i / d % 2 ≡ b → bit_at (bit_xor i d) (swapped w) ≡ bit_at i w
      at zero e =
          let up : bit_xor i d ≡ i + d = rw (beside i h, e) (omega arith) in
          ap (λ (n : ℕ). bit_at n (swapped w)) up
          ∙ moved_up w i (subst (λ (n : ℕ). n < 32) up (xor_lt 5 i d h small)) e
      at (suc zero) e =
          let above : d ≤ i = by_order (d ≤ i) d i (λ l. l) (λ l. absurd (omega (arith, div-eq_of_lt l, e))) in
          let down : bit_xor i d ≡ i - d = rw (beside i h, e) (omega arith) in
          let k : i - d + d ≡ i = omega arith in
          ap (λ (n : ℕ). bit_at n (swapped w)) down
          ∙ moved_down w (i - d) (omega arith) (omega (arith, field_below i above, e))
          ∙ ap (λ (n : ℕ). bit_at n w) k
      at (suc (suc b)) e = absurd (omega arith)

-- ---- one swap after another

pub then : (d e w r s : ℕ) → d < 32 → Stands d w r → Stands e r s → Stands (bit_xor d e) w s
then d e w r s h p q i l =
    ap (λ (n : ℕ). bit_at n s) (sym (xor_assoc i d e)) ∙ q (bit_xor i d) (xor_lt 5 i d l h) ∙ p i l

-- each swap of the five, on what the one before it left
pub in_turn : (w halves bytes nibbles pairs bits : ℕ) → Stands 16 w halves → Stands 8 halves bytes
    → Stands 4 bytes nibbles → Stands 2 nibbles pairs → Stands 1 pairs bits → InTurn w halves bytes nibbles pairs bits
in_turn w halves bytes nibbles pairs bits p q r s t =
    let at24 : Stands 24 w bytes = then 16 8 w halves bytes (omega arith) p q in
    let at28 : Stands 28 w nibbles = then 24 4 w bytes nibbles (omega arith) at24 r in
    let at30 : Stands 30 w pairs = then 28 2 w nibbles pairs (omega arith) at28 s in
    (p, at24, at28, at30, then 30 1 w pairs bits (omega arith) at30 t)

-- ---- the last is the reversal

-- only one word has each bit of w at i xor d
pub one_word : (d w r s : ℕ) → d < 32 → r < 2 ^ 32 → s < 2 ^ 32 → Stands d w r → Stands d w s → r ≡ s
one_word d w r s h rl sl p q = same_from_bits_below 32 r s rl sl same
  where
    back : (i : ℕ) → bit_xor (bit_xor i d) d ≡ i
    back i = xor_assoc i d d ∙ ap (bit_xor i) (xor_self d) ∙ xor_zero_r i

    same : (i : ℕ) → i < 32 → bit_at i r ≡ bit_at i s
    same i l =
        let j : bit_xor i d < 32 = xor_lt 5 i d l h in
        ap (λ (n : ℕ). bit_at n r) (sym (back i)) ∙ p (bit_xor i d) j ∙ sym (q (bit_xor i d) j) ∙ ap (λ (n : ℕ). bit_at n s) (back i)

pub reversal_stands : (w : ℕ) → Stands 31 w (reverse_bits 32 w)
reversal_stands w i h =
    let j : bit_xor i 31 ≡ 31 - i = alike_at (λ n. bit_xor n 31) (λ n. 31 - n) 32 tt i h in
    let k : 31 - (31 - i) ≡ i = omega arith in
    ap (λ (n : ℕ). bit_at n (reverse_bits 32 w)) j ∙ reversed_bit w (31 - i) (omega arith) ∙ ap (λ (n : ℕ). bit_at n w) k

pub reversed : (w r : ℕ) → r < 2 ^ 32 → Stands 31 w r → r ≡ reverse_bits 32 w
reversed w r h p = one_word 31 w r (reverse_bits 32 w) (omega arith) h (reversed_lt 32 w) p (reversal_stands w)

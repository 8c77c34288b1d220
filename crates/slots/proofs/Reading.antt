-- A slot that was read is of one of ten families: its words fit that family, and its unit is one of the family's two. What
-- holds of every such slot holds of every slot that was read.
use mathlib.Core.Path.{◌≡◌, refl, subst}
use mathlib.Core.Logic.{⊎_elim}
use mathlib.Core.Bool.{Bool, true, false, ◌||◌}
use mathlib.Core.List.{List}
use Prim.Native.Nat.{ℕ, ◌+◌, ◌%◌}
use native.Mathlib.Omega.{arith}
use lib.ListN.{length, get_or}
use lib.Dec.{eqb}
use borrow.Author.Tests.{eqb-true}
use Rattle.std.proofs.lemmas.Bool.{or_cases}
use Rattle.std.specs.Prelude.{Result, Ok, Err}
use Rattle.bits.specs.Pick.{pick}
use Rattle.slots.specs.Slots.{alu_fits, shifter_fits, trellis_fits, tmax_fits, despread_fits, transfer_fits, arith_fits, buffer_fits, access_fits, dab_fits, dab_block, width_in, file_in, number_in, side_of, field_words, read_words, read_fields}
use Rattle.slots.specs.declared.slot.Slot.{Slot}
use Rattle.slots.specs.declared.slot.Slot.TheVariants.{Alu, Shifter, Trellis, Tmax, Despread, Transfer}
use Rattle.slots.specs.declared.slot.Slot.TheVariants.{Arith, Buffer, Access, DabLoad}
use Rattle.slots.specs.declared.slot.SlotRefusal.{SlotRefusal}
use Rattle.slots.specs.declared.slot.SlotRefusal.TheVariants.{BadFields}

from_pick : {A C : Type 0} (b : Bool) (x y : A) {z : A} → pick b x y ≡ z → (b ≡ true → x ≡ z → C) → (b ≡ false → y ≡ z → C) → C
from_pick true x y e f g = f refl e
from_pick false x y e f g = g refl e

never : {C : Type 0} {x : Slot} → Err BadFields ≡ Ok x → C
never e = absurd (cc)

-- the number of a unit is its family's odd number, and 1 more on Y and K
unit_is : (k u : ℕ) → k % 2 ≡ 1 → (eqb u k || eqb u (k + 1)) ≡ true → k + side_of u ≡ u
unit_is k u odd e =
    ⊎_elim (λ h. let q = eqb-true u k h in omega arith) (λ h. let q = eqb-true u (k + 1) h in omega arith)
    (or_cases (eqb u k) (eqb u (k + 1)) e)

module _ (P : Slot → Type 0) (x : Slot) where
  -- the one slot that a family's test lets through
  fitting : (b : Bool) (y : Slot) (r : Result Slot SlotRefusal) → (b ≡ true → P y) → (r ≡ Ok x → P x) → pick b (Ok y) r ≡ Ok x → P x
  fitting true y r p q e = let same : y ≡ x = cc in subst P same (p refl)
  fitting false y r p q e = q e

  pub by_family : (u op t f s i : ℕ)
      → (1 + side_of u ≡ u → alu_fits op t f s i ≡ true → P (Alu (side_of u) op t f s))
      → (3 + side_of u ≡ u → shifter_fits op t f s i ≡ true → P (Shifter (side_of u) op t f s))
      → (5 + side_of u ≡ u → trellis_fits op t f s i ≡ true → P (Trellis (side_of u) op t f s i))
      → (5 + side_of u ≡ u → tmax_fits op t f s i ≡ true → P (Tmax (side_of u) op t f s))
      → (5 + side_of u ≡ u → despread_fits op t f s i ≡ true → P (Despread (side_of u) op t f s i))
      → (7 + side_of u ≡ u → arith_fits op t f s i ≡ true → P (Arith (side_of u) op t f s i))
      → (7 + side_of u ≡ u → buffer_fits op t f s i ≡ true → P (Buffer (side_of u) op t f))
      → (7 + side_of u ≡ u → access_fits op t f s i ≡ true → P (Access (side_of u) op (width_in t) (file_in t) (number_in t) f s i))
      → (7 + side_of u ≡ u → dab_fits op t f s ≡ true → P (DabLoad (side_of u) (dab_block op) t f i))
      → (9 + side_of u ≡ u → transfer_fits op t f s i ≡ true → P (Transfer (side_of u) op t f))
      → read_words u op t f s i ≡ Ok x → P x
  unfolding read_words
  by_family u op t f s i alu shifter trellis tmax despread arith' buffer access dab transfer e =
      from_pick (eqb u 1 || eqb u 2) _ _ e (λ h. fitting (alu_fits op t f s i) _ _ (alu (unit_is 1 u refl h)) never)
      (λ _ e. from_pick (eqb u 3 || eqb u 4) _ _ e
      (λ h. fitting (shifter_fits op t f s i) _ _ (shifter (unit_is 3 u refl h)) never)
      (λ _ e. from_pick (eqb u 5 || eqb u 6) _ _ e
      (λ h. fitting (trellis_fits op t f s i) _ _ (trellis (unit_is 5 u refl h))
      (fitting (tmax_fits op t f s i) _ _ (tmax (unit_is 5 u refl h))
      (fitting (despread_fits op t f s i) _ _ (despread (unit_is 5 u refl h)) never)))
      (λ _ e. from_pick (eqb u 7 || eqb u 8) _ _ e
      (λ h. fitting (arith_fits op t f s i) _ _ (arith' (unit_is 7 u refl h))
      (fitting (buffer_fits op t f s i) _ _ (buffer (unit_is 7 u refl h))
      (fitting (access_fits op t f s i) _ _ (access (unit_is 7 u refl h))
      (fitting (dab_fits op t f s) _ _ (dab (unit_is 7 u refl h)) never))))
      (λ _ e. from_pick (eqb u 9 || eqb u 10) _ _ e
      (λ h. fitting (transfer_fits op t f s i) _ _ (transfer (unit_is 9 u refl h)) never) (λ _. never)))))

-- the words that a slot was read from are six
pub six_read : (w : List ℕ) {x : Slot} → read_fields w ≡ Ok x → (length w ≡ field_words)
    × (read_words (get_or w 0 0) (get_or w 1 0) (get_or w 2 0) (get_or w 3 0) (get_or w 4 0) (get_or w 5 0) ≡ Ok x)
unfolding read_fields
six_read w e = from_pick (eqb (length w) field_words) _ _ e (λ h q. (eqb-true (length w) field_words h, q)) (λ _. never)

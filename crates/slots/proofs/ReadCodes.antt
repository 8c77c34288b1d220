-- The code of slot reading: 0 where six words are a slot of a known unit, 3 everywhere else.
use mathlib.Core.Path.{◌≡◌, refl, sym, ap, ◌∙◌}
use mathlib.Core.Bool.{Bool, true, false, ◌||◌}
use mathlib.Core.List.{List}
use Prim.Native.Nat.{ℕ}
use native.Mathlib.Omega.{arith}
use lib.ListN.{length, get_or}
use lib.Dec.{eqb}
use Rattle.std.specs.Prelude.{Result, Ok, Err}
use Rattle.bits.specs.Pick.{pick}
use Rattle.slots.specs.Slots.{alu_fits, shifter_fits, trellis_fits, tmax_fits, despread_fits, transfer_fits, arith_fits, buffer_fits, access_fits, dab_fits, field_words, read_words, of_six, read_fields, read_code, words_fit, fields_code}
use Rattle.slots.specs.declared.slot.Slot.{Slot}
use Rattle.slots.specs.declared.slot.SlotRefusal.{SlotRefusal}
use Rattle.slots.specs.declared.slot.SlotRefusal.TheVariants.{BadFields}

-- one family's test, and the tests of three and of four
one : (a : Bool) (x : Slot) → read_code (pick a (Ok x) (Err BadFields)) ≡ pick a 0 3
one true x = refl
one false x = refl

three : (a b c : Bool) (x y z : Slot)
    → read_code (pick a (Ok x) (pick b (Ok y) (pick c (Ok z) (Err BadFields)))) ≡ pick (a || b || c) 0 3
three true b c x y z = refl
three false true c x y z = refl
three false false c x y z = one c z

four : (a b c d : Bool) (x y z t : Slot)
    → read_code (pick a (Ok x) (pick b (Ok y) (pick c (Ok z) (pick d (Ok t) (Err BadFields))))) ≡ pick (a || b || c || d) 0 3
four true b c d x y z t = refl
four false b c d x y z t = three b c d y z t

-- a unit's slots, or those of the other units
by_unit : (a p q : Bool) (x y : Result Slot SlotRefusal) → read_code x ≡ pick p 0 3 → read_code y ≡ pick q 0 3
    → read_code (pick a x y) ≡ pick (pick a p q) 0 3
by_unit true p q x y e f = e
by_unit false p q x y e f = f

words_code : (u op t f s i : ℕ) → read_code (read_words u op t f s i) ≡ pick (words_fit u op t f s i) 0 3
unfolding read_words words_fit
words_code u op t f s i =
    by_unit (eqb u 1 || eqb u 2) _ _ _ _ (one (alu_fits op t f s i) _)
    (by_unit (eqb u 3 || eqb u 4) _ _ _ _ (one (shifter_fits op t f s i) _)
    (by_unit (eqb u 5 || eqb u 6) _ _ _ _
    (three (trellis_fits op t f s i) (tmax_fits op t f s i) (despread_fits op t f s i) _ _ _)
    (by_unit (eqb u 7 || eqb u 8) _ _ _ _
    (four (arith_fits op t f s i) (buffer_fits op t f s i) (access_fits op t f s i) (dab_fits op t f s) _ _ _ _)
    (by_unit (eqb u 9 || eqb u 10) _ false _ (Err BadFields) (one (transfer_fits op t f s i) _) refl))))

pub read_code_lem : (w : List ℕ) → read_code (read_fields w) ≡ fields_code w
unfolding read_fields
read_code_lem w =
    by_unit (eqb (length w) field_words) _ false _ (Err BadFields)
    (words_code (get_or w 0 0) (get_or w 1 0) (get_or w 2 0) (get_or w 3 0) (get_or w 4 0) (get_or w 5 0)) refl

-- the reading of fields refuses words for their fields alone
pub fields_bad : (w : List ℕ) (e : SlotRefusal) → read_fields w ≡ Err e → e ≡ BadFields
fields_bad w e q = go e (of_six false words_fit w) (sym (ap read_code q) ∙ read_code_lem w)
  where
    go : (e : SlotRefusal) (b : Bool) → read_code {A = Slot} (Err e) ≡ pick b 0 3 → e ≡ BadFields
    go BadFields b c = refl
    go e true c = absurd (omega arith)
    go e false c = absurd (omega arith)

pub told_code : (w : List ℕ) {r : Result Slot SlotRefusal} → r ≡ read_fields w → (r ≡ read_fields w) × (read_code r ≡ fields_code w)
told_code w e = (e, rw e (read_code_lem w))

-- A slot of a line that was read: seven words, fields that are a slot of a family, a condition of at most 12, and a modifier that fits.
-- Reading loses nothing.
use mathlib.Core.Path.{◌≡◌, refl, sym, ap, ◌∙◌}
use mathlib.Core.Bool.{Bool, true, false, not, ◌&&◌, ◌||◌, and-false}
use mathlib.Core.List.{List, [], ◌∷◌, ◌++◌}
use Prim.Native.Nat.{ℕ, ◌+◌, ◌≤◌, ◌<◌}
use native.Mathlib.Omega.{arith}
use lib.ListN.{length, take, get_or}
use lib.Seq.{get_or-take}
use lib.Dec.{eqb, leb}
use borrow.Author.Tests.{eqb-true, eqb-false, leb-true, eq-eqb, ne_eqb, le-leb, lt-leb}
use Rattle.std.proofs.lemmas.List.{take_more, take_all}
use Rattle.std.specs.Prelude.{Result, Ok, Err}
use Rattle.bits.specs.Pick.{pick}
use Rattle.slots.specs.Slots.{side_of, field_words, read_words, read_fields, read_code}
use Rattle.slots.specs.Conditionals.{slot_words, condition_fits, modifier_fits, conditional, with_condition, read_slot, loads_through_dab, slot_code}
use Rattle.slots.specs.SlotWords.{words_of}
use Rattle.slots.specs.declared.slot.Slot.{Slot}
use Rattle.slots.specs.declared.slot.SlotRefusal.{SlotRefusal}
use Rattle.slots.specs.declared.slot.SlotRefusal.TheVariants.{BadFields, BadCondition, BadModifier}
use Rattle.slots.specs.declared.conditional_slot.Conditional.{Conditional}
use Rattle.slots.proofs.Picks.{is_true, is_false}
use Rattle.slots.proofs.Tests.{and_left, and_right}
use Rattle.slots.proofs.Reading.{by_family, six_read}
use Rattle.slots.proofs.ReadCodes.{read_code_lem, fields_bad}
use Rattle.slots.proofs.Valid.{Valid, read_valid}
use Rattle.slots.proofs.SlotWords.{read_words_lem}

-- ---- the modifier, by the slot's words

ruleset parts = (leb-true, and_left, and_right)

module _ (u op i : ℕ) where
  -- the test of the words: a load through a data alignment buffer has modifier 4
  abbrev words_fit : Bool
  words_fit = not ((eqb u 7 || eqb u 8) && leb 24 op) || eqb i 4

  other_unit : (u ≡ 7 → ⊥) → (u ≡ 8 → ⊥) → true ≡ words_fit
  other_unit p q = sym (rw (ne_eqb u 7 p, ne_eqb u 8 q))

  other_op : op < 24 → true ≡ words_fit
  other_op h = sym (rw (lt-leb 24 op h, and-false (eqb u 7 || eqb u 8)))

  dab_op : 7 + side_of u ≡ u → 24 ≤ op → eqb i 4 ≡ words_fit
  dab_op e h = sym (rw (unit (eqb u 7) refl, le-leb 24 op h))
    where
      unit : (b : Bool) → eqb u 7 ≡ b → (b || eqb u 8) ≡ true
      unit true q = refl
      unit false q = eq-eqb u 8 (let n = eqb-false u 7 q in omega arith)

  words_modifier : (t f s : ℕ) (x : Slot) → read_words u op t f s i ≡ Ok x → modifier_fits x ≡ words_fit
  words_modifier t f s x =
      by_family (λ y. modifier_fits y ≡ words_fit) x u op t f s i
      (λ p h. other_unit (λ e. omega arith) (λ e. omega arith))
      (λ p h. other_unit (λ e. omega arith) (λ e. omega arith))
      (λ p h. other_unit (λ e. omega arith) (λ e. omega arith))
      (λ p h. other_unit (λ e. omega arith) (λ e. omega arith))
      (λ p h. other_unit (λ e. omega arith) (λ e. omega arith))
      (λ p h. let l : op ≤ 14 = search parts depth 9 in other_op (omega arith))
      (λ p h. let l : op ≤ 16 = search parts depth 9 in other_op (omega arith))
      (λ p h. let l : op ≤ 23 = search parts depth 9 in other_op (omega arith))
      (λ p h. dab_op p (search parts depth 9))
      (λ p h. other_unit (λ e. omega arith) (λ e. omega arith))

modifier_read : (w : List ℕ) (x : Slot) → read_fields (take field_words w) ≡ Ok x
    → modifier_fits x ≡ (not (loads_through_dab w) || eqb (get_or w 5 0) 4)
modifier_read w x e =
    words_modifier (get_or fields 0 0) (get_or fields 1 0) (get_or fields 5 0) (get_or fields 2 0) (get_or fields 3 0) (get_or fields 4 0) x
    (six_read fields e).1
    ∙ rw (
      get_or-take field_words w 0 0 (omega arith),
      get_or-take field_words w 1 0 (omega arith),
      get_or-take field_words w 5 0 (omega arith),
    )
  where
    fields : List ℕ
    fields = take field_words w

-- ---- the code of the answer

condition_code_lem : (f g : Bool) (x : Conditional)
    → read_code (pick f (pick g (Ok x) (Err BadModifier)) (Err BadCondition)) ≡ pick f (pick g 0 16) 15
condition_code_lem true true x = refl
condition_code_lem true false x = refl
condition_code_lem false g x = refl

with_code : (c : ℕ) (r : Result Slot SlotRefusal) (m : Bool) → ((x : Slot) → r ≡ Ok x → modifier_fits x ≡ m)
    → ((e : SlotRefusal) → r ≡ Err e → e ≡ BadFields)
    → read_code (with_condition c r) ≡ pick (eqb (read_code r) 0) (pick (condition_fits c) (pick m 0 16) 15) 3
with_code c (Ok x) m h f = rw (← h x refl) (condition_code_lem (condition_fits c) (modifier_fits x) (conditional x c))
with_code c (Err e) m h f = rw (f e refl)

seven_code : (b : Bool) (r : Result Conditional SlotRefusal) (z : Bool) (k : ℕ) → read_code r ≡ pick z k 3
    → read_code (pick b r (Err BadFields)) ≡ pick (b && z) k 3
seven_code true r z k e = e
seven_code false r z k e = refl

pub slot_read_code_lem : (w : List ℕ) → read_code (read_slot w) ≡ slot_code w
unfolding read_slot
slot_read_code_lem w =
    seven_code (eqb (length w) slot_words) _ _ _
    (with_code (get_or w field_words 0) (read_fields (take field_words w)) (not (loads_through_dab w) || eqb (get_or w 5 0) 4)
    (modifier_read w) (fields_bad (take field_words w))
    ∙ ap (λ (k : ℕ). pick (eqb k 0) (pick (condition_fits (get_or w field_words 0)) (pick (not (loads_through_dab w) || eqb (get_or w 5 0) 4) 0 16) 15) 3)
    (read_code_lem (take field_words w)))

pub told_slot : (w : List ℕ) {r : Result Conditional SlotRefusal} → r ≡ read_slot w → (r ≡ read_slot w) × (read_code r ≡ slot_code w)
told_slot w e = (e, rw e (slot_read_code_lem w))

-- ---- the answers, one after another

module _ (w : List ℕ) where
  pub not_seven : (length w ≡ slot_words → ⊥) → Err BadFields ≡ read_slot w
  unfolding read_slot
  not_seven h = is_false _ (Err BadFields) (ne_eqb (length w) slot_words h) refl

  module _ (h : length w ≡ slot_words) {q : Result Slot SlotRefusal} (e : q ≡ read_fields (take field_words w)) where
    whole : {r : Result Conditional SlotRefusal} → r ≡ with_condition (get_or w field_words 0) q → r ≡ read_slot w
    unfolding read_slot
    whole k = is_true _ (Err BadFields) (eq-eqb (length w) slot_words h) (k ∙ ap (with_condition (get_or w field_words 0)) e)

    pub fields_refused : {r : SlotRefusal} → q ≡ Err r → Err r ≡ read_slot w
    fields_refused r = whole (rw r)

    module _ {x : Slot} (r : q ≡ Ok x) where
      pub condition_refused : 12 < get_or w field_words 0 → Err BadCondition ≡ read_slot w
      condition_refused k = whole (rw (r, lt-leb (get_or w field_words 0) 12 k))

      pub modifier_refused : get_or w field_words 0 ≤ 12 → modifier_fits x ≡ false → Err BadModifier ≡ read_slot w
      modifier_refused k m = whole (rw (r, le-leb (get_or w field_words 0) 12 k, m))

      pub read_whole : get_or w field_words 0 ≤ 12 → modifier_fits x ≡ true
          → Ok (conditional x (get_or w field_words 0)) ≡ read_slot w
      read_whole k m = whole (rw (r, le-leb (get_or w field_words 0) 12 k, m))

-- ---- a slot that was read

-- its fields, its condition and its modifier
pub record Found (w : List ℕ) (x : Conditional) : Type 0 where
  pub seven : length w ≡ slot_words
  pub fields : read_fields (take field_words w) ≡ Ok x.slot
  pub its_condition : get_or w field_words 0 ≡ x.condition
  pub condition_fits_lem : x.condition ≤ 12
  pub modifier_fits_lem : modifier_fits x.slot ≡ true

pub slot_found : (w : List ℕ) (x : Conditional) → read_slot w ≡ Ok x → Found w x
unfolding read_slot
slot_found w x e = go (eqb (length w) slot_words) (read_fields (take field_words w)) (condition_fits (get_or w field_words 0)) refl refl refl e
  where
    last : ℕ
    last = get_or w field_words 0

    go : (b : Bool) (r : Result Slot SlotRefusal) (f : Bool) → eqb (length w) slot_words ≡ b
        → read_fields (take field_words w) ≡ r → condition_fits last ≡ f
        → pick b (with_condition last r) (Err BadFields) ≡ Ok x → Found w x
    go false r f p q s t = absurd (cc)
    go true (Err r) f p q s t = absurd (cc)
    go true (Ok y) f p q s t = fitting f (modifier_fits y) s refl (rw s at t)
      where
        fitting : (g m : Bool) → condition_fits last ≡ g → modifier_fits y ≡ m
            → pick g (pick m (Ok (conditional y last)) (Err BadModifier)) (Err BadCondition) ≡ Ok x → Found w x
        fitting false m k l u = absurd (cc)
        fitting true false k l u = absurd (cc)
        fitting true true k l u =
            let same : conditional y last ≡ x = cc in
            record {
              seven = eqb-true (length w) slot_words p;
              fields = q ∙ ap (λ (z : Conditional). Ok z.slot) same;
              its_condition = ap (λ (z : Conditional). z.condition) same;
              condition_fits_lem =
                  let l = leb-true last 12 k in
                  let i : last ≡ x.condition = ap (λ (z : Conditional). z.condition) same in
                  omega arith;
              modifier_fits_lem = ap (λ (z : Conditional). modifier_fits z.slot) (sym same) ∙ l;
            }

pub slot_valid : (w : List ℕ) (x : Conditional) → read_slot w ≡ Ok x → Valid x.slot
slot_valid w x e = read_valid (take field_words w) x.slot (slot_found w x e).fields

-- a list of seven is its first six and its last
last_of : (w : List ℕ) → length w ≡ slot_words → take field_words w ++ (get_or w field_words 0 ∷ []) ≡ w
last_of w h = sym (take_more w field_words 0 (omega arith)) ∙ take_all slot_words w (omega arith)

pub slot_words_lem : (w : List ℕ) (x : Conditional) → read_slot w ≡ Ok x → words_of x ≡ w
slot_words_lem w x e =
    let f = slot_found w x e in
    rw (read_words_lem (take field_words w) x.slot f.fields, ← f.its_condition) (last_of w f.seven)

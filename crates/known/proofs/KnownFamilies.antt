-- Words that are known to be a slot: unit and op tell the family.
use mathlib.Core.Path.{◌≡◌, refl, sym, ap, ap₂, ◌∙◌}
use mathlib.Core.Bool.{Bool, true, false, ◌||◌}
use mathlib.Core.List.{List}
use Prim.Native.Nat.{ℕ, ◌+◌, ◌≤◌, ◌<◌}
use native.Mathlib.Omega.{arith}
use lib.ListN.{length, take, get_or}
use lib.Seq.{get_or-take}
use lib.Dec.{eqb}
use borrow.Author.Tests.{leb-true, eq-eqb, ne_eqb}
use Rattle.std.specs.Prelude.{Result, Ok, Err}
use Rattle.bits.specs.Pick.{pick}
use Rattle.bits.proofs.Integers.{by_order}
use Rattle.slots.specs.Conditionals.{slot_words, conditional, read_slot}
use Rattle.slots.specs.Slots.{field_words, alu_fits, shifter_fits, transfer_fits, arith_fits, buffer_fits, access_fits, dab_fits, dab_block, width_in, file_in, number_in, side_of, read_alu, read_shifter, read_clu, read_ialu, read_transfer, read_words, read_code}
use Rattle.slots.specs.declared.slot.Slot.{Slot}
use Rattle.slots.specs.declared.slot.Slot.TheVariants.{Alu, Shifter, Transfer}
use Rattle.slots.specs.declared.slot.Slot.TheVariants.{Arith, Buffer, Access, DabLoad}
use Rattle.slots.specs.declared.slot.SlotRefusal.{SlotRefusal}
use Rattle.slots.specs.declared.slot.SlotRefusal.TheVariants.{BadFields, BadCondition, BadModifier}
use Rattle.slots.specs.declared.conditional_slot.Conditional.{Conditional}
use Rattle.slots.proofs.Tests.{and_left, and_right, or_left, or_right}
use Rattle.slots.proofs.Reading.{six_read}
use Rattle.slots.proofs.ConditionalReads.{slot_found}

-- ---- one family's test after another

not_refused : {C : Type 0} → read_code {A = Slot} (Err BadFields) ≡ 0 → C
not_refused e = absurd (omega arith)

-- the test is not passed, so that the others are left
passed_over : (c : Bool) (y : Slot) (r : Result Slot SlotRefusal) → (c ≡ true → ⊥) → pick c (Ok y) r ≡ r
passed_over true y r h = absurd (h refl)
passed_over false y r h = refl

-- a slot that no other test lets through
let_through : (c : Bool) (y : Slot) (r : Result Slot SlotRefusal) → read_code (pick c (Ok y) r) ≡ 0 → (read_code r ≡ 0 → ⊥)
    → pick c (Ok y) r ≡ Ok y
let_through true y r e h = refl
let_through false y r e h = absurd (h e)

ruleset parts = (leb-true, and_left, and_right)

module _ (b op t f s i : ℕ) where
  arith_op : arith_fits op t f s i ≡ true → op ≤ 14
  arith_op e = search parts depth 9

  buffer_from : buffer_fits op t f s i ≡ true → 15 ≤ op
  buffer_from e = search parts depth 9

  buffer_op : buffer_fits op t f s i ≡ true → op ≤ 16
  buffer_op e = search parts depth 9

  access_from : access_fits op t f s i ≡ true → 17 ≤ op
  access_from e = search parts depth 9

  dab_from : dab_fits op t f s ≡ true → 24 ≤ op
  dab_from e = search parts depth 9

  abbrev access : Slot
  access = Access b op (width_in t) (file_in t) (number_in t) f s i

  abbrev dab_load : Slot
  dab_load = DabLoad b (dab_block op) t f i

  -- what is read of ops that are none of arithmetic and buffers, and of those that are no access either
  abbrev last : Result Slot SlotRefusal
  last = pick (dab_fits op t f s) (Ok dab_load) (Err BadFields)

  abbrev accesses : Result Slot SlotRefusal
  accesses = pick (access_fits op t f s i) (Ok access) last

  no_dab_load : op ≤ 23 → read_code last ≡ 0 → ⊥
  no_dab_load h e =
      not_refused (rw (passed_over (dab_fits op t f s) dab_load (Err BadFields) (λ g. let l = dab_from g in omega arith)) at e)

  no_access : op ≤ 16 → read_code accesses ≡ 0 → ⊥
  no_access h e =
      no_dab_load (omega arith)
      (rw (passed_over (access_fits op t f s i) access last (λ g. let l = access_from g in omega arith)) at e)

  pub is_arith : read_code (read_ialu b op t f s i) ≡ 0 → op ≤ 14 → read_ialu b op t f s i ≡ Ok (Arith b op t f s i)
  is_arith e h =
      let_through (arith_fits op t f s i) (Arith b op t f s i) _ e
      (λ q. no_access (omega arith) (rw (passed_over (buffer_fits op t f s i) (Buffer b op t f)
      _ (λ g. let l = buffer_from g in omega arith)) at q))

  not_arith : 14 < op → read_ialu b op t f s i
      ≡ pick (buffer_fits op t f s i) (Ok (Buffer b op t f)) accesses
  not_arith h = passed_over (arith_fits op t f s i) (Arith b op t f s i) _ (λ g. let l = arith_op g in omega arith)

  not_buffer : 16 < op → read_ialu b op t f s i ≡ accesses
  not_buffer h =
      not_arith (omega arith) ∙ passed_over (buffer_fits op t f s i) (Buffer b op t f) _ (λ g. let l = buffer_op g in omega arith)

  pub is_access : read_code (read_ialu b op t f s i) ≡ 0 → 16 < op → op ≤ 23 → read_ialu b op t f s i ≡ Ok access
  is_access e l h =
      not_buffer l ∙ let_through (access_fits op t f s i) access last (sym (ap read_code (not_buffer l)) ∙ e) (no_dab_load h)

-- ---- units

is_unit : (k u : ℕ) → k ≤ u → u ≤ k + 1 → (eqb u k || eqb u (k + 1)) ≡ true
is_unit k u l h =
    by_order ((eqb u k || eqb u (k + 1)) ≡ true) u k
    (λ m. or_left _ (eq-eqb u k (omega arith)))
    (λ m. or_right (eqb u k) (eq-eqb u (k + 1) (omega arith)))

other_unit : (k u : ℕ) → (u ≡ k → ⊥) → (u ≡ k + 1 → ⊥) → (eqb u k || eqb u (k + 1)) ≡ false
other_unit k u p q = rw (ne_eqb u k p, ne_eqb u (k + 1) q)

-- a family alone on its unit
only : (c : Bool) (y : Slot) → read_code (pick c (Ok y) (Err BadFields)) ≡ 0 → pick c (Ok y) (Err BadFields) ≡ Ok y
only c y e = let_through c y (Err BadFields) e not_refused

module _ (u op t f s i : ℕ) where
  abbrev all : Result Slot SlotRefusal
  all = read_words u op t f s i

  -- the words' unit is one of 1 to 10
  no_unit : (1 ≤ u → 10 < u) → all ≡ Err BadFields
  unfolding read_words
  no_unit h =
      by_order (all ≡ Err BadFields) 1 u
      (λ l. let g = h l in others (λ k m. (λ e. omega arith, λ e. omega arith)))
      (λ l. others (λ k m. (λ e. omega arith, λ e. omega arith)))
    where
      others : ((k : ℕ) → (1 ≤ k) × (k ≤ 9) → (u ≡ k → ⊥) × (u ≡ k + 1 → ⊥)) → all ≡ Err BadFields
      others g =
          rw (
            other_unit 1 u (g 1 (omega arith, omega arith)).0 (g 1 (omega arith, omega arith)).1,
            other_unit 3 u (g 3 (omega arith, omega arith)).0 (g 3 (omega arith, omega arith)).1,
            other_unit 5 u (g 5 (omega arith, omega arith)).0 (g 5 (omega arith, omega arith)).1,
            other_unit 7 u (g 7 (omega arith, omega arith)).0 (g 7 (omega arith, omega arith)).1,
            other_unit 9 u (g 9 (omega arith, omega arith)).0 (g 9 (omega arith, omega arith)).1,
          )

  known_unit : read_code all ≡ 0 → (1 ≤ u) × (u ≤ 10)
  known_unit e =
      by_order ((1 ≤ u) × (u ≤ 10)) 1 u
      (λ l. by_order ((1 ≤ u) × (u ≤ 10)) u 10 (λ h. (l, h))
      (λ h. not_refused (rw (no_unit (λ _. h)) at e)))
      (λ l. not_refused (rw (no_unit (λ m. absurd (omega arith))) at e))

  on_alu : 1 ≤ u → u ≤ 2 → all ≡ read_alu (side_of u) op t f s i
  unfolding read_words
  on_alu l h = rw (is_unit 1 u l h)

  on_shifter : 2 < u → u ≤ 4 → all ≡ read_shifter (side_of u) op t f s i
  unfolding read_words
  on_shifter l h = rw (other_unit 1 u (λ e. omega arith) (λ e. omega arith), is_unit 3 u (omega arith) h)

  pub on_clu : 4 < u → u ≤ 6 → all ≡ read_clu (side_of u) op t f s i
  unfolding read_words
  on_clu l h =
      rw (
        other_unit 1 u (λ e. omega arith) (λ e. omega arith),
        other_unit 3 u (λ e. omega arith) (λ e. omega arith),
        is_unit 5 u (omega arith) h,
      )

  pub on_ialu : 6 < u → u ≤ 8 → all ≡ read_ialu (side_of u) op t f s i
  unfolding read_words
  on_ialu l h =
      rw (
        other_unit 1 u (λ e. omega arith) (λ e. omega arith),
        other_unit 3 u (λ e. omega arith) (λ e. omega arith),
        other_unit 5 u (λ e. omega arith) (λ e. omega arith),
        is_unit 7 u (omega arith) h,
      )

  on_transfer_lem : 8 < u → u ≤ 10 → all ≡ read_transfer (side_of u) op t f s i
  unfolding read_words
  on_transfer_lem l h =
      rw (
        other_unit 1 u (λ e. omega arith) (λ e. omega arith),
        other_unit 3 u (λ e. omega arith) (λ e. omega arith),
        other_unit 5 u (λ e. omega arith) (λ e. omega arith),
        other_unit 7 u (λ e. omega arith) (λ e. omega arith),
        is_unit 9 u (omega arith) h,
      )

  pub is_alu : read_code all ≡ 0 → u ≤ 2 → all ≡ Ok (Alu (side_of u) op t f s)
  is_alu e h =
      let q = on_alu (known_unit e).0 h in q ∙ only (alu_fits op t f s i) (Alu (side_of u) op t f s) (sym (ap read_code q) ∙ e)

  pub is_shifter : read_code all ≡ 0 → 2 < u → u ≤ 4 → all ≡ Ok (Shifter (side_of u) op t f s)
  is_shifter e l h =
      let q = on_shifter l h in
      q ∙ only (shifter_fits op t f s i) (Shifter (side_of u) op t f s) (sym (ap read_code q) ∙ e)

  pub is_transfer : read_code all ≡ 0 → 8 < u → all ≡ Ok (Transfer (side_of u) op t f)
  is_transfer e l =
      let q = on_transfer_lem l (known_unit e).1 in
      q ∙ only (transfer_fits op t f s i) (Transfer (side_of u) op t f) (sym (ap read_code q) ∙ e)

pub ruleset units = (is_alu, is_shifter, on_clu, on_ialu, is_transfer)

-- ---- the words of a slot: its six fields and its condition

abbrev fields_read : List ℕ → Result Slot SlotRefusal
fields_read w = read_words (get_or w 0 0) (get_or w 1 0) (get_or w 2 0) (get_or w 3 0) (get_or w 4 0) (get_or w 5 0)

fields_read_lem : (w : List ℕ) {r : Result Slot SlotRefusal} → fields_read (take field_words w) ≡ r → fields_read w ≡ r
fields_read_lem w e =
    rw (
      get_or-take 6 w 0 0 (omega arith),
      get_or-take 6 w 1 0 (omega arith),
      get_or-take 6 w 2 0 (omega arith),
      get_or-take 6 w 3 0 (omega arith),
      get_or-take 6 w 4 0 (omega arith),
      get_or-take 6 w 5 0 (omega arith),
    ) at e

pub record Known (w : List ℕ) : Type 0 where
  pub seven : length w ≡ slot_words
  pub code : read_code (fields_read w) ≡ 0
  pub whole : (x : Slot) → fields_read w ≡ Ok x → read_slot w ≡ Ok (conditional x (get_or w field_words 0))

pub known : (w : List ℕ) → read_code (read_slot w) ≡ 0 → Known w
known w e = go (read_slot w) refl e
  where
    go : (r : Result Conditional SlotRefusal) → read_slot w ≡ r → read_code r ≡ 0 → Known w
    go (Ok x) q _ =
        let f = slot_found w x q in
        let fields = fields_read_lem w (six_read (take field_words w) f.fields).1 in
        record {
          seven = f.seven;
          code = ap read_code fields;
          whole = λ y g.
              let same : x.slot ≡ y = cc in
              q ∙ ap Ok (ap₂ conditional same (sym f.its_condition));
        }
    go (Err BadFields) q c = absurd (omega arith)
    go (Err BadCondition) q c = absurd (omega arith)
    go (Err BadModifier) q c = absurd (omega arith)

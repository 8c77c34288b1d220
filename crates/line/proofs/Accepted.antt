-- What a line that breaks no rule is: the runs stand on it.
use mathlib.Core.Path.{◌≡◌, refl, sym, ◌∙◌, ap}
use mathlib.Core.List.{List, [], ◌∷◌}
use mathlib.Core.Bool.{Bool, true, false, true≢false}
use Prim.Native.Nat.{ℕ, suc, ◌*◌, ◌/◌, ◌≤◌, ◌<◌}
use native.Mathlib.Omega.{arith}
use lib.ListN.{length}
use lib.Dec.{eqb}
use borrow.Author.Tests.{eq-eqb}
use Rattle.std.specs.Prelude.{Result, Ok, Err}
use Rattle.slots.specs.Lists.{some, twice, All, Pairwise}
use Rattle.slots.specs.Places.{Place, file_number, same_place}
use Rattle.slots.specs.Stores.{stored_by}
use Rattle.slots.specs.Conditionals.{slot_words, unconditional}
use Rattle.line.specs.Rules.{unit_of, rule3, rule15, rule16, rule4, rule5, rule6, rule7, refuse, slots_verdict, slots_of, reads_verdict}
use Rattle.line.specs.Lines.{sized, read_line}
use Rattle.slots.specs.declared.conditional_slot.Conditional.{Conditional}
use Rattle.slots.specs.declared.slot.SlotRefusal.{SlotRefusal}
use Rattle.slots.specs.declared.slot.SlotRefusal.TheVariants.{BadFields, BadCondition, BadModifier}
use Rattle.line.specs.Verdicts.{Verdict}
use Rattle.slots.proofs.Tests.{neither_left, neither_right}
use Rattle.slots.proofs.Valid.{Valid}
use Rattle.line.proofs.Lines.{Whole, whole_line, reads_length}
use Rattle.line.proofs.LineVerdicts.{reads_ranged, slots_valid}

-- ---- tests that fail say that things differ

-- no two of a list are the same: every two of them differ
pub all_differ : {A : Type 0} (same : A → A → Bool) (P : A → A → Type 0) → ((x y : A) → same x y ≡ false → P x y)
    → (xs : List A) → twice same xs ≡ false → Pairwise P xs
all_differ {A} same P told [] e = tt
all_differ {A} same P told (x ∷ xs) e = (
  each xs (neither_left (some (same x) xs) (twice same xs) e),
  all_differ same P told xs (neither_right (some (same x) xs) (twice same xs) e),
)
  where
    each : (ys : List A) → some (same x) ys ≡ false → All (P x) ys
    each [] f = tt
    each (y ∷ ys) f = (
      told x y (neither_left (same x y) (some (same x) ys) f),
      each ys (neither_right (same x y) (some (same x) ys) f),
    )

place_differs : (p q : Place) → same_place p q ≡ false → p ≡ q → ⊥
place_differs p q e h = true≢false (sym same ∙ e)
  where
    same : same_place p q ≡ true
    same = rw (← h, eq-eqb (file_number p.file) (file_number p.file) refl, eq-eqb p.index p.index refl)

-- ---- a line that breaks no rule

-- all slots of a line, as they are read
abbrev pub as_read : List Conditional → List (Result Conditional SlotRefusal)
as_read [] = []
as_read (x ∷ xs) = Ok x ∷ as_read xs

pub record Accepted (w : List ℕ) : Type 0 where
  -- one to four slots, and no other words
  pub slots : List Conditional
  pub some_slot : 1 ≤ length slots
  pub four_slots : length slots ≤ 4
  pub words : length w ≡ slot_words * length slots
  -- every slot can be read, and its fields are in range
  pub readable : read_line w ≡ as_read slots
  pub valid : All Valid (unconditional slots)
  -- rules 4 and 6
  pub positions_fit : rule4 (unconditional slots) ≡ false
  pub blocks_fit : rule6 (unconditional slots) ≡ false
  -- rule 5: the slots are on different units
  pub one_a_unit : rule5 (unconditional slots) ≡ false
  pub units : Pairwise (λ x y. unit_of x ≡ unit_of y → ⊥) (unconditional slots)
  -- rule 7: the register places that they store differ, those of a THR pair that is loaded stored by the load alone
  pub stored_once : rule7 (unconditional slots) ≡ false
  pub places : Pairwise (λ p q. p ≡ q → ⊥) (stored_by (unconditional slots) (unconditional slots))

-- a rule that gives no code is not broken
pub unbroken : {A : Type 0} (code : ℕ) (rule : List A → Bool) (xs : List A) (v : Verdict) → 0 < code
    → (refuse code rule xs v).code ≡ 0 → (rule xs ≡ false) × (v.code ≡ 0)
unbroken code rule xs v h e = go (rule xs) refl
  where
    go : (b : Bool) → b ≡ rule xs → (rule xs ≡ false) × (v.code ≡ 0)
    go true t = absurd (let z : code ≡ 0 = rw (← t) at e in omega arith)
    go false f = (sym f, rw (← f) at e)

all_read : (rs : List (Result Conditional SlotRefusal)) → rule3 rs ≡ false → rule15 rs ≡ false → rule16 rs ≡ false
    → rs ≡ as_read (slots_of rs)
all_read [] e f g = refl
all_read (Ok x ∷ rs) e f g = ap (λ (r : List (Result Conditional SlotRefusal)). Ok x ∷ r) (all_read rs e f g)
all_read (Err BadFields ∷ rs) e f g = absurd (true≢false e)
all_read (Err BadCondition ∷ rs) e f g = absurd (true≢false f)
all_read (Err BadModifier ∷ rs) e f g = absurd (true≢false g)

read_length : (xs : List Conditional) → length (as_read xs) ≡ length xs
read_length [] = refl
read_length (x ∷ xs) = ap suc (read_length xs)

pub accepted_line : (w : List ℕ) → sized (length w) ≡ true → (reads_verdict (read_line w)).code ≡ 0 → Accepted w
unfolding reads_verdict slots_verdict
accepted_line w s e =
    let r = unbroken 3 rule3 (read_line w) _ (omega arith) e in
    let c = unbroken 15 rule15 (read_line w) _ (omega arith) r.1 in
    let m = unbroken 16 rule16 (read_line w) _ (omega arith) c.1 in
    let ys = slots_of (read_line w) in
    let xs = unconditional ys in
    let p = unbroken 4 rule4 xs _ (omega arith) m.1 in
    let u = unbroken 5 rule5 xs _ (omega arith) p.1 in
    let b = unbroken 6 rule6 xs _ (omega arith) u.1 in
    let g = unbroken 7 rule7 xs _ (omega arith) b.1 in
    let read = all_read (read_line w) r.0 c.0 m.0 in
    let h = whole_line w s in
    let n : length ys ≡ h.slots = counted ys h read in
    record {
      slots = ys;
      some_slot = omega (arith, h.some, n);
      four_slots = omega (arith, h.four, n);
      words = h.words ∙ ap (λ (m : ℕ). slot_words * m) (sym n);
      readable = read;
      valid = slots_valid (read_line w) (reads_ranged (length w / slot_words) w);
      positions_fit = p.0;
      blocks_fit = b.0;
      one_a_unit = u.0;
      units =
          all_differ (λ x y. eqb (unit_of x) (unit_of y)) (λ x y. unit_of x ≡ unit_of y → ⊥)
          (λ x y f q. true≢false (sym (eq-eqb (unit_of x) (unit_of y) q) ∙ f)) xs u.0;
      stored_once = g.0;
      places = all_differ same_place (λ p q. p ≡ q → ⊥) place_differs (stored_by xs xs) g.0;
    }
  where
    counted : (xs : List Conditional) (h : Whole w) → read_line w ≡ as_read xs → length xs ≡ h.slots
    counted xs h q =
        let a = reads_length (length w / slot_words) w in
        let b : length (read_line w) ≡ length xs = ap length q ∙ read_length xs in
        omega (arith, h.words)

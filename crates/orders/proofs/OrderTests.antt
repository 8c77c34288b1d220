-- The tests of an order, one after another, on the parts of it that the code lends.
use mathlib.Core.Path.{◌≡◌, refl, sym, ap, ◌∙◌}
use mathlib.Core.Bool.{Bool, true, false}
use mathlib.Core.List.{List, []}
use Prim.Native.Nat.{ℕ, ◌+◌, ◌-◌, ◌*◌, ◌≤◌, min}
use native.Mathlib.Omega.{arith}
use lib.ListN.{length, take, drop, get_or, length-drop, drop_of_length-le}
use lib.Seq.{take_all, length-take-le}
use lib.Dec.{ltb}
use Rattle.bits.proofs.Integers.{by_order}
use Rattle.slots.specs.Lists.{below}
use Rattle.conditional.specs.declared.line_slot.Fetched.{Fetched}
use Rattle.orders.specs.Orders.{position, once, unused, step_bytes}
use Rattle.orders.specs.AdmissibleFetched.{Positions, all_stand, pair_in_sequence, in_sequence_by, admissible_fetched}
use Rattle.orders.proofs.Below.{below_list, below_same}
use Rattle.orders.proofs.OnceEach.{stand_once}

-- ---- an order that is cut where its steps end

module _ (order : List ℕ) (n : ℕ) {e : ℕ} (f : e ≡ min n (length order)) where
  abbrev Parts : ℕ → Type 0
  Parts k = (take k order ≡ take n order) × (drop k order ≡ drop n order)

  over : (k : ℕ) → length order ≤ k → drop k order ≡ []
  over k h = drop_of_length-le order h

  parts : Parts e
  parts =
      by_order (Parts e) n (length order)
      (λ h. let q : e ≡ n = omega arith in rw q (refl, refl))
      (λ h.
      let q : e ≡ length order = omega arith in (
        take_all e order (omega arith) ∙ sym (take_all n order (omega arith)),
        over e (omega arith) ∙ sym (over n (omega arith)),
      ))

  rest_lent : take (length order - e) (drop e order) ≡ drop n order
  rest_lent = take_all (length order - e) (drop e order) (simp length-drop (omega arith)) ∙ parts.1

  steps_length : length (take n order) ≡ e
  steps_length = ap length (sym parts.0) ∙ length-take-le e order (omega arith)

-- ---- by the positions of the steps

module _ (at bs : List ℕ) (p : Positions at bs) where
  all_stand_lem : (n : ℕ) → n ≤ 4 → length bs ≤ 2 * n → all_stand n (length bs) at ≡ once n bs
  unfolding all_stand
  all_stand_lem n h k =
      below_list (λ i. ltb i (length bs)) at 0 (2 * n) (omega (arith, p.0))
      ∙ below_same (2 * n) _ (λ b. ltb (position b bs) (length bs)) (λ b l.
      ap (λ (i : ℕ). ltb i (length bs)) (p.1 b (omega arith)))
      ∙ stand_once n bs k

  in_order_lem : (slots : List Fetched) → length slots ≤ 4
      → in_sequence_by (λ b. get_or at b 0) slots ≡ in_sequence_by (λ b. position b bs) slots
  unfolding in_sequence_by
  in_order_lem slots h =
      below_same (length slots) _ (λ s. below (length slots) (pair_in_sequence (λ b. position b bs) slots s)) (λ s k.
      below_same (length slots) _ (pair_in_sequence (λ b. position b bs) slots s) (λ t l.
      rw (p.1 (2 * s) (omega arith), p.1 (2 * t + 1) (omega arith))))

-- ---- one test after another

module _ (order : List ℕ) (slots : List Fetched) (h : length slots ≤ 4) {e : ℕ} (f : e ≡ min (2 * length slots) (length order))
    (at : List ℕ) (p : Positions at (take e order)) {o : Bool} (g : o ≡ all_stand (length slots) e at) where
  abbrev n : ℕ
  n = length slots

  placed : Positions at (step_bytes n order)
  placed = rw (parts order (2 * n) f).0 at p

  told : o ≡ once n (step_bytes n order)
  told =
      let k = steps_length order (2 * n) f in
      g ∙ ap (λ (i : ℕ). all_stand n i at) (sym k) ∙ all_stand_lem at (step_bytes n order) placed n h (omega arith)

  pub not_once : o ≡ false → false ≡ admissible_fetched order slots
  unfolding admissible_fetched
  not_once k = sym (rw (← told, k))

  module _ (k : o ≡ true) {u : Bool} (q : u ≡ unused (take (length order - e) (drop e order))) where
    rest_told : u ≡ unused (drop (2 * n) order)
    rest_told = rw (rest_lent order (2 * n) f) at q

    pub not_unused : u ≡ false → false ≡ admissible_fetched order slots
    unfolding admissible_fetched
    not_unused l = sym (rw (← told, ← rest_told, k, l))

    pub in_sequence_lem : u ≡ true → {r : Bool} → r ≡ in_sequence_by (λ b. get_or at b 0) slots
        → r ≡ admissible_fetched order slots
    unfolding admissible_fetched
    in_sequence_lem l j =
        j ∙ in_order_lem at (step_bytes n order) placed slots h ∙ sym (rw (← told, ← rest_told, k, l))

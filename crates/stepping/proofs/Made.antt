-- The ordered line: what its checks and its steps are, from what the code finds.
use mathlib.Core.Path.{◌≡◌, refl, sym, ◌∙◌, ap}
use mathlib.Core.Bool.{Bool, true, false}
use mathlib.Core.List.{List, [], ◌∷◌, map}
use Prim.Native.Nat.{ℕ, zero, suc, ◌*◌, ◌<◌, min}
use native.Mathlib.Omega.{arith}
use native.Mathlib.Nat.{zero-min, min-zero, suc-min-suc}
use lib.ListN.{length, take, get_or}
use Rattle.std.proofs.lemmas.List.{take-map}
use borrow.Author.Tests.{ne_eqb}
use Rattle.bits.specs.Pick.{pick}
use Rattle.slots.specs.Lists.{All}
use Rattle.slots.specs.Conditionals.{unconditional}
use Rattle.slots.specs.Stores.{slot_in}
use Rattle.slots.specs.declared.conditional_slot.LineSlot.{LineSlot}
use Rattle.slots.specs.declared.conditional_slot.Conditional.{Conditional}
use Rattle.slots.proofs.Valid.{Valid}
use Rattle.line.specs.Rules.{verdict}
use Rattle.std.specs.Prelude.{Result, Ok, Err}
use Rattle.slots.specs.Conditionals.{no_conditional}
use Rattle.line.specs.Verdicts.{Verdict, rule_code, verdict_of}
use Rattle.line.specs.declared.rules.Broken.{Broken}
use Rattle.line.proofs.RuleCodes.{some_code}
use Rattle.machine.specs.Machine.{Machine}
use Rattle.conditional.specs.declared.line_slot.Fetched.{Fetched}
use Rattle.refusals.specs.Refusals.{fetch_line}
use Rattle.execution.specs.PlainLine.{refusal_of}
use Rattle.refusals.specs.Refusals.{fetch_slot, fetch_each}
use Rattle.execution.proofs.FetchedLines.{fetch_length}
use Rattle.steps.specs.Steps.{steps}
use Rattle.steps.specs.SlotSteps.{acts_in}
use Rattle.steps.proofs.LineActs.{AllFetchedOn, acts_found}
use Rattle.orders.specs.AdmissibleFetched.{admissible_fetched}
use Rattle.orders.proofs.Admissible.{admissible_line}
use Rattle.stepping.specs.OrderedLine.{ordered_refusal, ordered_end}

-- ---- what the code lends of an order

-- as many bytes as the least of two numbers and their own
pub least_of : (i n : ℕ) (bs : List ℕ) → take (min i (min n (length bs))) bs ≡ take i (take n bs)
least_of zero n bs = rw (zero-min (min n (length bs)))
least_of (suc i) zero bs = rw (zero-min (length bs), min-zero (suc i))
least_of (suc i) (suc n) [] = rw (min-zero (suc n), min-zero (suc i))
least_of (suc i) (suc n) (b ∷ bs) =
    rw (suc-min-suc n (length bs), suc-min-suc i (min n (length bs))) (ap (λ (l : List ℕ). b ∷ l) (least_of i n bs))

-- ---- the line

-- what is fetched of some slots of a line
slots_each : (line : List Conditional) (m : Machine) (xs : List Conditional)
    → map (λ y. y.slot) (fetch_each line m xs) ≡ map (slot_in line) xs
slots_each line m [] = refl
slots_each line m (x ∷ xs) = ap (λ (r : List LineSlot). slot_in line x ∷ r) (slots_each line m xs)

get_each : (line : List Conditional) (m : Machine) (s : ℕ) (xs : List Conditional) (d : Fetched) → s < length xs
    → get_or (fetch_each line m xs) s d ≡ fetch_slot line m (get_or xs s no_conditional)
get_each line m s [] d h = absurd (omega arith)
get_each line m zero (x ∷ xs) d h = refl
get_each line m (suc s) (x ∷ xs) d h = get_each line m s xs d (omega arith)

module _ (line : List Conditional) (m : Machine) (order : List ℕ) (left : ℕ) {r : Result (Unit {0}) Broken}
    (e : verdict_of r ≡ refusal_of line m) where
  -- refused by the running state
  pub state_refused : {b : Broken} → r ≡ Err b → {v : Verdict} → v ≡ refusal_of line m
      → (v ≡ ordered_refusal line m order) × (m ≡ ordered_end line left m order)
  unfolding ordered_refusal ordered_end
  state_refused {b} i {v} q =
      let code : (refusal_of line m).code ≡ rule_code b.rule = ap (λ (u : Verdict). u.code) (sym e ∙ ap verdict_of i) in
      let other : (refusal_of line m).code ≡ 0 → ⊥ = λ z. some_code b.rule (sym code ∙ z) in
      let same : refusal_of line m ≡ ordered_refusal line m order = sym (rw (ne_eqb (refusal_of line m).code 0 other)) in
      (q ∙ same, sym (rw (← same, ne_eqb (refusal_of line m).code 0 other)))

  module _ {x : Unit {0}} (z : r ≡ Ok x) {xs : List Fetched} (p : xs ≡ fetch_line line m) (w : All Valid (unconditional line))
      {a : Bool} (f : a ≡ admissible_fetched order xs) where
    on_m : AllFetchedOn m line xs
    on_m =
        record {
          same_length = ap length p ∙ fetch_length line m line;
          each_on = λ s d h.
              let y : get_or xs s d ≡ fetch_slot line m (get_or line s no_conditional) =
              ap (λ ys. get_or ys s d) p ∙ get_each line m s line d h in
              record { same_slot = ap (λ (u : Fetched). u.slot) y; same_held = ap (λ (u : Fetched). u.held) y };
        }

    judged : ordered_refusal line m order ≡ pick a (verdict 0 0) (verdict 11 0)
    unfolding ordered_refusal
    judged = rw (← e, z, ← admissible_line m line xs on_m w order, ← f)

    -- the order is refused
    pub not_admissible : a ≡ false → (verdict 11 0 ≡ ordered_refusal line m order) × (m ≡ ordered_end line left m order)
    unfolding ordered_end
    not_admissible h = (sym (judged ∙ rw (h)), sym (rw (judged, h)))

    -- the steps that the limit allows are made
    pub steps_made : a ≡ true → {slots : List LineSlot} → slots ≡ map (λ y. y.slot) xs → {i : ℕ}
        → i ≡ min left (min (2 * length line) (length order)) → {d : Machine} → d ≡ steps (acts_in slots) (take i order) m
        → (verdict 0 0 ≡ ordered_refusal line m order) × (d ≡ ordered_end line left m order)
    unfolding ordered_end
    steps_made h {slots} k l q =
        let same : slots ≡ map (slot_in line) line = k ∙ ap (map (λ y. y.slot)) p ∙ slots_each line m line in (
          sym (judged ∙ rw (h)),
          q ∙ rw (l, least_of left (2 * length line) order, same, acts_found line) (sym (rw (judged, h))),
        )

-- ---- the slots of four, as the code takes them from its array

four : (xs : List Fetched) (a b c d : Fetched) → length xs ≡ 4
    → (get_or xs 0 a).slot ∷ (get_or xs 1 b).slot ∷ (get_or xs 2 c).slot ∷ (get_or xs 3 d).slot ∷ [] ≡ map (λ y. y.slot) xs
four [] a b c d h = absurd (omega arith)
four (x ∷ []) a b c d h = absurd (omega arith)
four (x ∷ y ∷ []) a b c d h = absurd (omega arith)
four (x ∷ y ∷ z ∷ []) a b c d h = absurd (omega arith)
four (x ∷ y ∷ z ∷ u ∷ []) a b c d h = refl
four (x ∷ y ∷ z ∷ u ∷ v ∷ xs) a b c d h = absurd (omega arith)

pub first_slots : (n : ℕ) (xs : List Fetched) (a b c d : Fetched) → length xs ≡ 4
    → take n ((get_or xs 0 a).slot ∷ (get_or xs 1 b).slot ∷ (get_or xs 2 c).slot ∷ (get_or xs 3 d).slot ∷ [])
    ≡ map (λ y. y.slot) (take n xs)
first_slots n xs a b c d h = ap (take n) (four xs a b c d h) ∙ take-map (λ y. y.slot) n xs

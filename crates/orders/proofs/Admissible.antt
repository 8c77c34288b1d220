-- What the code tests of an order, by the footprints of a line's slots with what they fetched, is that the order is admissible.
use mathlib.Core.Path.{◌≡◌}
use mathlib.Core.Bool.{Bool, not, ◌||◌}
use mathlib.Core.List.{List, [], ◌∷◌}
use mathlib.Core.Option.{some}
use Prim.Native.Nat.{ℕ, zero, suc, ◌+◌, ◌*◌, ◌<◌}
use native.Mathlib.Omega.{arith}
use lib.ListN.{length, get_or}
use Rattle.slots.specs.Lists.{All, below}
use Rattle.slots.specs.Places.{meet}
use Rattle.slots.specs.Conditionals.{no_conditional, unconditional}
use Rattle.slots.specs.Stores.{slot_in}
use Rattle.slots.specs.declared.conditional_slot.Conditional.{Conditional}
use Rattle.slots.proofs.Valid.{Valid}
use Rattle.machine.specs.Machine.{Machine}
use Rattle.conditional.specs.declared.line_slot.Fetched.{Fetched}
use Rattle.footprints.proofs.Covered.{reads_meet}
use Rattle.steps.specs.Steps.{act_of, acts_of}
use Rattle.steps.proofs.LineActs.{act_at, FetchedOn, AllFetchedOn}
use Rattle.orders.specs.Orders.{reads_by, stores_by, waits, position, precedes, in_sequence, step_bytes, admissible_by, admissible}
use Rattle.orders.specs.AdmissibleFetched.{reads_stored, nth, pair_in_sequence, in_sequence_by, admissible_fetched}
use Rattle.orders.proofs.Below.{below_same}

valid_at : (s : ℕ) (line : List Conditional) → All Valid (unconditional line) → s < length line
    → Valid (get_or line s no_conditional).slot
valid_at s [] v h = absurd (omega arith)
valid_at zero (x ∷ xs) v h = v.0
valid_at (suc s) (x ∷ xs) v h = valid_at s xs v.1 (omega arith)

module _ (m : Machine) (line : List Conditional) where
  -- slot s of the line, and the slot with what it fetched
  record Found (s : ℕ) (y : Fetched) : Type 0 where
    pub slot : Conditional
    pub valid : Valid slot.slot
    pub act_is : acts_of line s ≡ some (act_of line slot)
    pub fetched : FetchedOn m line slot y

  reads_stored_lem : {s t : ℕ} {x y : Fetched} → Found s x → Found t y
      → reads_stored x y ≡ meet (reads_by (acts_of line s) m) (stores_by (acts_of line t) m)
  unfolding reads_stored
  reads_stored_lem o u =
      rw (
        o.act_is,
        u.act_is,
        o.fetched.same_held,
        o.fetched.same_slot,
        u.fetched.same_held,
        u.fetched.same_slot,
      )
      (reads_meet m (slot_in line o.slot) (slot_in line u.slot).slot _ o.valid u.valid)

  module _ (slots : List Fetched) (f : AllFetchedOn m line slots) (v : All Valid (unconditional line)) where
    at_slot : (s : ℕ) → s < length line → Found s (nth slots s)
    at_slot s h =
        record {
          slot = get_or line s no_conditional;
          valid = valid_at s line v h;
          act_is = act_at line s h;
          fetched = f.each_on s _ h;
        }

    pair_waits : (bs : List ℕ) (s t : ℕ) → s < length line → t < length line
        → pair_in_sequence (λ b. position b bs) slots s t
        ≡ (not (waits (acts_of line) m s t) || precedes (2 * s) (2 * t + 1) bs)
    unfolding waits precedes
    pair_waits bs s t hs ht = rw (reads_stored_lem (at_slot s hs) (at_slot t ht))

    in_sequence_lem : (bs : List ℕ) → in_sequence_by (λ b. position b bs) slots ≡ in_sequence (acts_of line) (length line) m bs
    unfolding in_sequence_by in_sequence
    in_sequence_lem bs =
        rw f.same_length
        (below_same n (λ s. below n (pair_in_sequence (λ b. position b bs) slots s)) (λ s. below n (waiting s)) (λ s hs.
        below_same n (pair_in_sequence (λ b. position b bs) slots s) (waiting s) (λ t ht. pair_waits bs s t hs ht)))
      where
        n : ℕ
        n = length line

        waiting : ℕ → ℕ → Bool
        waiting s t = not (waits (acts_of line) m s t) || precedes (2 * s) (2 * t + 1) bs

    pub admissible_line : (order : List ℕ) → admissible_fetched order slots ≡ admissible line m order
    unfolding admissible_fetched admissible_by
    admissible_line order = rw (in_sequence_lem (step_bytes (length slots) order), f.same_length)

-- One line of an accepted image: the steps of an admissible order, made in place, leave the machine of the plain line, and
-- they are as many as the line has.
use mathlib.Core.Path.{◌≡◌, refl, sym, ◌∙◌}
use mathlib.Core.Bool.{true, false, ◌&&◌}
use mathlib.Core.List.{List, [], ◌∷◌, ◌++◌, append-nil, append_assoc}
use mathlib.Core.Option.{Option, none, some}
use Prim.Native.Nat.{ℕ, zero, suc, ◌*◌, ◌<◌, ◌≤◌}
use native.Mathlib.Omega.{arith}
use lib.ListN.{length, take, drop, length-take}
use lib.Seq.{take_all}
use Rattle.slots.specs.Lists.{All, Pairwise, nth_of}
use Rattle.slots.specs.Places.{meet}
use Rattle.slots.specs.declared.conditional_slot.Conditional.{Conditional}
use Rattle.slots.proofs.Tests.{and_left, and_right}
use Rattle.line.proofs.Accepted.{Accepted}
use Rattle.machine.specs.Machine.{Machine}
use Rattle.machine.specs.Fetches.{puts}
use Rattle.machine.proofs.Spans.{puts_append}
use Rattle.refusals.specs.Refusals.{fetch_slot, fetch_each}
use Rattle.execution.specs.PlainLine.{stores_of, plain_line, refusal_of, line_of}
use Rattle.execution.proofs.NotRefused.{line_slots}
use Rattle.theorems.proofs.StoredOnce.{StoresApart, line_stored_once}
use Rattle.steps.specs.Steps.{Act, act_of, acts_of, begun, in_place}
use Rattle.steps.proofs.LineActs.{acts_end}
use Rattle.orders.specs.Orders.{stores_by, once, unused, in_sequence, step_bytes, admissible_by, admissible}
use Rattle.theorems.proofs.PlainBy.{writes_of, plain_by, Apart}
use Rattle.theorems.proofs.InPlace.{AsBefore, line_in_place, prefix_as_before}
use Rattle.runs.specs.Plain.{line_steps}

-- ---- the slots of a line by their numbers

module _ (line : List Conditional) where
  -- slot s of some slots of the line
  abbrev pub act_in : List Conditional → ℕ → Option Act
  act_in xs s = nth_of (λ x. some (act_of line x)) none s xs

  module _ (m : Machine) where
    -- ---- no place is stored by two of them

    later_apart : (x : Conditional) (ys : List Conditional) → All (StoresApart (fetch_slot line m x)) (fetch_each line m ys) → (t : ℕ)
        → t < length ys
        → meet (stores_by (some (act_of line x)) m) (stores_by (act_in ys t) m) ≡ false
    later_apart x [] h t l = absurd (omega arith)
    later_apart x (y ∷ ys) h zero l = h.0
    later_apart x (y ∷ ys) h (suc t) l = later_apart x ys h.1 t (omega arith)

    slots_apart : (xs : List Conditional) → Pairwise StoresApart (fetch_each line m xs) → (s t : ℕ) → s < t → t < length xs
        → meet (stores_by (act_in xs s) m) (stores_by (act_in xs t) m) ≡ false
    slots_apart [] p s t h l = absurd (omega arith)
    slots_apart (x ∷ xs) p s zero h l = absurd (omega arith)
    slots_apart (x ∷ xs) p zero (suc t) h l = later_apart x xs p.0 t (omega arith)
    slots_apart (x ∷ xs) p (suc s) (suc t) h l = slots_apart xs p.1 s t (omega arith) (omega arith)

    -- ---- the plain line, a slot at a time

    -- the stores of the first slots, and of one more
    one_more : (k : ℕ) (xs : List Conditional)
        → stores_of (fetch_each line m (take (suc k) xs))
        ≡ stores_of (fetch_each line m (take k xs)) ++ writes_of (act_in xs k) m
    one_more zero [] = refl
    one_more (suc k) [] = refl
    one_more zero (x ∷ xs) = append-nil _
    one_more (suc k) (x ∷ xs) =
        let mine = writes_of (act_in (x ∷ xs) 0) m in
        rw (one_more k xs) (sym (append_assoc mine (stores_of (fetch_each line m (take k xs))) (writes_of (act_in xs k) m)))

    first_slots : (k : ℕ) → plain_by (acts_of line) m k ≡ puts (stores_of (fetch_each line m (take k line))) m
    unfolding plain_by puts
    first_slots zero = refl
    first_slots (suc k) =
        rw (first_slots k, one_more k line)
        (sym (puts_append (stores_of (fetch_each line m (take k line))) (writes_of (acts_of line k) m) m))

    plain_by_slots : plain_by (acts_of line) m (length line) ≡ plain_line line m
    unfolding plain_line
    plain_by_slots = first_slots (length line) ∙ rw (take_all (length line) line (omega arith))

-- ---- an accepted line with an admissible order

-- one to four slots
pub line_size : (w : List ℕ) → Accepted w → (1 ≤ length (line_of w)) × (length (line_of w) ≤ 4)
line_size w a = rw (← line_slots w a) (a.some_slot, a.four_slots)

-- eight bytes have a byte for each step
pub order_steps : (w : List ℕ) → Accepted w → (order : List ℕ) → length order ≡ 8
    → length (step_bytes (length (line_of w)) order) ≡ line_steps (line_of w)
order_steps w a order h = let size = line_size w a in simp length-take (omega arith)

module _ (w : List ℕ) (a : Accepted w) (m : Machine) (passed : (refusal_of (line_of w) m).code ≡ 0) (order : List ℕ)
    (admitted : admissible (line_of w) m order ≡ true) where
  abbrev line : List Conditional
  line = line_of w

  abbrev bytes : List ℕ
  bytes = step_bytes (length line) order

  apart : Apart (acts_of line) (length line) m
  unfolding Apart
  apart = slots_apart line m line (line_stored_once w a m passed)

  each_once : once (length line) bytes ≡ true
  unfolding admissible_by
  each_once =
      and_left (once (length line) bytes) (unused (drop (2 * length line) order))
      (and_left (once (length line) bytes && unused (drop (2 * length line) order)) _ admitted)

  in_sequence_lem : in_sequence (acts_of line) (length line) m bytes ≡ true
  unfolding admissible_by
  in_sequence_lem = and_right (once (length line) bytes && unused (drop (2 * length line) order)) _ admitted

  pub line_ordered : in_place line bytes m ≡ plain_line line m
  line_ordered =
      line_in_place (acts_of line) (length line) m apart (acts_end line) bytes each_once in_sequence_lem ∙ plain_by_slots line m

  -- each step does what it would do before the line, also where a limit ends the run inside the line
  pub line_as_before : (k : ℕ) → AsBefore (acts_of line) m (take k bytes) (begun m)
  line_as_before k = prefix_as_before (acts_of line) (length line) m apart (acts_end line) bytes each_once in_sequence_lem k

-- Serves the code only; a reader of 01 can skip it.
-- Admissibility as the code tests it, by the footprints of slots with what they hold. proofs/Admissible.antt shows that for a
-- line's slots, each with what it fetched before the line, it is `admissible`.
use Rattle.std.specs.Prelude.{ℕ, ◌+◌, ◌*◌, ◌<◌, ◌≡◌, Bool, not, ◌&&◌, ◌||◌, List, [], length, get_or, take, drop, eqb, ltb}
use Rattle.std.specs.List.{list_all}
use Rattle.slots.specs.Lists.{below}
use Rattle.slots.specs.Conditionals.{line_slot, no_slot}
use Rattle.conditional.specs.declared.line_slot.Fetched.{Fetched}
use Rattle.footprints.specs.Footprints.{footprints_meet, reads_in, stores_in}
use Rattle.orders.specs.Orders.{position, once, unused, step_bytes}

-- the positions of the values below 8
abbrev pub Positions : List ℕ → List ℕ → Type 0
Positions at bs = (length at ≡ 8) × ((b : ℕ) → b < 8 → get_or at b 0 ≡ position b bs)

-- each step of a line of n slots stands before the end
unfoldable pub all_stand : ℕ → ℕ → List ℕ → Bool
all_stand n end at = list_all (λ i. ltb i end) (take (2 * n) at)

-- slot x reads a place that slot y stores, by what they hold
unfoldable pub reads_stored : Fetched → Fetched → Bool
reads_stored x y = footprints_meet (reads_in x.slot x.held) (stores_in y.slot.slot y.held)

-- slot s of some; past them one that holds nothing
abbrev pub past : Fetched
past = record { slot = line_slot no_slot 0 0; held = [] }

abbrev pub nth : List Fetched → ℕ → Fetched
nth slots s = get_or slots s past

-- each fetch precedes the stores that wait for it, by the positions of the steps
abbrev pub pair_in_sequence : (ℕ → ℕ) → List Fetched → ℕ → ℕ → Bool
pair_in_sequence at slots s t =
    not (eqb s t || reads_stored (nth slots s) (nth slots t)) || ltb (at (2 * s)) (at (2 * t + 1))

unfoldable pub in_sequence_by : (ℕ → ℕ) → List Fetched → Bool
in_sequence_by at slots = below (length slots) (λ s. below (length slots) (λ t. pair_in_sequence at slots s t))

unfoldable pub admissible_fetched : List ℕ → List Fetched → Bool
admissible_fetched order slots =
    once (length slots) (step_bytes (length slots) order) && unused (drop (2 * length slots) order)
    && in_sequence_by (λ b. position b (step_bytes (length slots) order)) slots

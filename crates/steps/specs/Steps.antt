-- 01, 'Runs and orders': the machine performs steps in place, one by one. Any sequence of bytes is a sequence of steps,
-- admissible or not.
use Rattle.std.specs.Prelude.{ℕ, ◌/◌, ◌%◌, List, [], ◌∷◌, eqb}
use Rattle.std.proofs.Math.Option.{Option, none, some}
use Rattle.bits.specs.Pick.{pick}
use Rattle.slots.specs.Lists.{nth_of}
use Rattle.slots.specs.declared.conditional_slot.LineSlot.{LineSlot}
use Rattle.slots.specs.Stores.{slot_in}
use Rattle.slots.specs.declared.conditional_slot.Conditional.{Conditional}
use Rattle.machine.specs.Machine.{Machine}
use Rattle.machine.specs.Fetches.{Ask, Write, values, puts}
use Rattle.conditional.specs.LineSlots.{fetch_in, store_in}

-- ---- the slots of a line

-- what a slot asks in its fetch, and what its store makes from the words that it holds
pub record Act : Type 0 where
  pub asks : Ask
  pub makes : List ℕ → List Write

abbrev pub act : LineSlot → Act
act x = record { asks = fetch_in x; makes = store_in x.slot }

-- a slot of a line
abbrev pub act_of : List Conditional → Conditional → Act
act_of line x = act (slot_in line x)

-- slot s of a line; none where the line has no slot s
abbrev pub acts_of : List Conditional → ℕ → Option Act
acts_of line s = nth_of (λ x. some (act_of line x)) none s line

-- ---- a step

-- the machine inside a line, and what each slot holds
pub record InLine : Type 0 where
  pub machine : Machine
  pub holds : ℕ → Option (List ℕ)

-- no slot holds anything when its line begins
abbrev pub begun : Machine → InLine
begun m = record { machine = m; holds = λ s. none }

-- a fetch takes its values from the machine as the steps before it left it, a word past memory as 0 (`get`); a slot holds
-- what it last fetched
abbrev pub fetch_step : Act → ℕ → InLine → InLine
fetch_step a s c =
    record {
      machine = c.machine;
      holds = λ i. pick (eqb s i) (some (values a.asks c.machine)) (c.holds i);
    }

-- a store with nothing held does nothing; a word past memory is never stored (`put`)
abbrev pub store_held : Act → Option (List ℕ) → Machine → Machine
store_held a none m = m
store_held a (some v) m = puts (a.makes v) m

abbrev pub store_step : Act → ℕ → InLine → InLine
store_step a s c = record { machine = store_held a (c.holds s) c.machine; holds = c.holds }

-- the value 2s means slot s's fetch, 2s+1 its store; one that names no slot of the line does nothing
abbrev pub step_by : Option Act → ℕ → InLine → InLine
step_by none b c = c
step_by (some a) b c = pick (eqb (b % 2) 0) (fetch_step a (b / 2) c) (store_step a (b / 2) c)

unfoldable pub step : (ℕ → Option Act) → ℕ → InLine → InLine
step acts b c = step_by (acts (b / 2)) b c

-- ---- a sequence of steps

unfoldable pub steps_from : (ℕ → Option Act) → List ℕ → InLine → InLine
steps_from acts [] c = c
steps_from acts (b ∷ bs) c = steps_from acts bs (step acts b c)

-- the steps of one line, from the machine before it
unfoldable pub steps : (ℕ → Option Act) → List ℕ → Machine → Machine
steps acts bs m = (steps_from acts bs (begun m)).machine

-- and of a line by its slots
abbrev pub in_place : List Conditional → List ℕ → Machine → Machine
in_place line bs m = steps (acts_of line) bs m

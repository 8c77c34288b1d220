-- The acts that the code finds in its slots are those of the line, where they are the line's.
use mathlib.Core.Path.{◌≡◌, refl, fun_ext}
use mathlib.Core.List.{List, [], ◌∷◌, map}
use mathlib.Core.Option.{none, some}
use Prim.Native.Nat.{ℕ, zero, suc, ◌≤◌, ◌<◌}
use lib.ListN.{length, get_or}
use Rattle.slots.specs.Lists.{nth_of}
use Rattle.slots.specs.Conditionals.{no_conditional}
use Rattle.slots.specs.Stores.{slot_in}
use Rattle.slots.specs.declared.conditional_slot.Conditional.{Conditional}
use Rattle.machine.specs.Machine.{Machine}
use Rattle.machine.specs.Fetches.{values}
use Rattle.conditional.specs.LineSlots.{fetch_in}
use Rattle.conditional.specs.declared.line_slot.Fetched.{Fetched}
use Rattle.steps.specs.Steps.{act, act_of, acts_of}
use Rattle.steps.specs.SlotSteps.{acts_in}
use Rattle.steps.proofs.Nth.{nth_read, nth_end, nth_map}

pub acts_end : (line : List Conditional) (s : ℕ) → length line ≤ s → acts_of line s ≡ none
acts_end line s h = nth_end (λ x. some (act_of line x)) none s line h

pub act_at : (line : List Conditional) (s : ℕ) → s < length line
    → acts_of line s ≡ some (act_of line (get_or line s no_conditional))
act_at line s h = nth_read (λ x. some (act_of line x)) none s line no_conditional h

pub acts_found : (line : List Conditional) → acts_in (map (slot_in line) line) ≡ acts_of line
unfolding acts_in
acts_found line = fun_ext (λ s. nth_map (λ x. some (act x)) none (slot_in line) s line)

-- a slot of a line with what it fetched on m
pub record FetchedOn (m : Machine) (line : List Conditional) (x : Conditional) (y : Fetched) : Type 0 where
  pub same_slot : y.slot ≡ slot_in line x
  pub same_held : y.held ≡ values (fetch_in (slot_in line x)) m

-- the slots of a line, each with what it fetched on m
pub record AllFetchedOn (m : Machine) (line : List Conditional) (slots : List Fetched) : Type 0 where
  pub same_length : length slots ≡ length line
  pub each_on : (s : ℕ) (d : Fetched) → s < length line → FetchedOn m line (get_or line s no_conditional) (get_or slots s d)

-- One step, by what the code finds: whether the byte names a slot of the line, and what that slot holds.
use mathlib.Core.Path.{◌≡◌, refl, sym, ap, ◌∙◌, fun_ext}
use mathlib.Core.Bool.{Bool, true, false}
use mathlib.Core.List.{List}
use mathlib.Core.Option.{Option, none, some}
use Prim.Native.Nat.{ℕ, ◌/◌, ◌%◌, ◌≤◌, ◌<◌}
use lib.ListN.{length, get_or, set}
use lib.Seq.{get_or-set_same, get_or-set_other}
use lib.Dec.{eqb}
use borrow.Author.Tests.{eq-eqb, ne_eqb, eqb-true, eqb-false}
use Rattle.std.specs.Prelude.{Option as Place, Some, None}
use Rattle.bits.specs.Pick.{pick}
use Rattle.slots.specs.declared.conditional_slot.LineSlot.{LineSlot}
use Rattle.machine.specs.Machine.{Machine}
use Rattle.machine.specs.Fetches.{values, puts}
use Rattle.conditional.specs.LineSlots.{fetch_in, store_in}
use Rattle.steps.specs.Steps.{act, InLine, step}
use Rattle.steps.specs.SlotSteps.{acts_in}
use Rattle.steps.proofs.Nth.{nth_read, nth_end}

-- ---- what the slots hold, in the code's array

abbrev pub in_place : Place (List ℕ) → Option (List ℕ)
in_place None = none
in_place (Some v) = some v

unfoldable pub holds_in : List (Place (List ℕ)) → ℕ → Option (List ℕ)
holds_in held s = in_place (get_or held s None)

abbrev pub in_line : Machine → List (Place (List ℕ)) → InLine
in_line m held = record { machine = m; holds = holds_in held }

-- ---- one step

module _ (b : ℕ) (slots : List LineSlot) (held : List (Place (List ℕ))) (m : Machine) where
  pub no_slot_lem : length slots ≤ b / 2 → in_line m held ≡ step (acts_in slots) b (in_line m held)
  unfolding step acts_in
  no_slot_lem h = sym (rw (nth_end (λ x. some (act x)) none (b / 2) slots h))

  -- the slot that the byte names
  module _ (h : b / 2 < length slots) (d : LineSlot) where
    its_act : acts_in slots (b / 2) ≡ some (act (get_or slots (b / 2) d))
    unfolding acts_in
    its_act = nth_read (λ x. some (act x)) none (b / 2) slots d h

    pub fetched : {v : List ℕ} → b / 2 < length held → b % 2 ≡ 0
        → v ≡ values (fetch_in (get_or slots (b / 2) d)) m
        → in_line m (set held (b / 2) (Some v)) ≡ step (acts_in slots) b (in_line m held)
    unfolding step holds_in
    fetched {v} k even e =
        ap (λ (g : ℕ → Option (List ℕ)). record { machine = m; holds = g }) (fun_ext (λ i. go i (eqb (b / 2) i) refl))
        ∙ sym (rw (its_act, eq-eqb (b % 2) 0 even))
      where
        go : (i : ℕ) (t : Bool) → eqb (b / 2) i ≡ t
            → in_place (get_or (set held (b / 2) (Some v)) i None)
            ≡ pick t (some (values (fetch_in (get_or slots (b / 2) d)) m)) (holds_in held i)
        go i true q = rw (← eqb-true (b / 2) i q, get_or-set_same held (b / 2) (Some v) None k, e)
        go i false q = rw (get_or-set_other held (b / 2) i (Some v) None (λ p. eqb-false (b / 2) i q (sym p)))

    module _ (odd : b % 2 ≡ 0 → ⊥) where
      pub stored : {v : List ℕ} {n' : Machine} → get_or held (b / 2) None ≡ Some v
          → n' ≡ puts (store_in (get_or slots (b / 2) d).slot v) m
          → in_line n' held ≡ step (acts_in slots) b (in_line m held)
      unfolding step holds_in
      stored t q = sym (rw (its_act, ne_eqb (b % 2) 0 odd, t, q))

      pub none_held : ((v : List ℕ) → get_or held (b / 2) None ≡ Some v → ⊥)
          → in_line m held ≡ step (acts_in slots) b (in_line m held)
      unfolding step holds_in
      none_held t = go (get_or held (b / 2) None) refl t
        where
          go : (o : Place (List ℕ)) → get_or held (b / 2) None ≡ o → ((v : List ℕ) → o ≡ Some v → ⊥)
              → in_line m held ≡ step (acts_in slots) b (in_line m held)
          go None e t = sym (rw (its_act, ne_eqb (b % 2) 0 odd, e))
          go (Some v) e t = absurd (t v refl)

-- Every step leaves true ends true, in any sequence.
use mathlib.Core.Bool.{Bool, true, false}
use mathlib.Core.List.{List, [], ◌∷◌}
use mathlib.Core.Option.{Option, none, some}
use Prim.Native.Nat.{ℕ, ◌/◌, ◌%◌}
use lib.Dec.{eqb}
use Rattle.bits.specs.Pick.{pick}
use Rattle.machine.specs.Machine.{Machine, EndsTrue}
use Rattle.machine.proofs.Ends.{true_puts}
use Rattle.steps.specs.Steps.{Act, InLine, begun, fetch_step, store_held, store_step, step_by, step, steps_from, steps}

abbrev True : InLine → Type 0
True c = EndsTrue c.machine.state

store_true : (a : Act) (held : Option (List ℕ)) (m : Machine) → EndsTrue m.state → EndsTrue (store_held a held m).state
store_true a none m t = t
store_true a (some v) m t = true_puts (a.makes v) m t

by_kind : (b : Bool) (a : Act) (s : ℕ) (c : InLine) → True c → True (pick b (fetch_step a s c) (store_step a s c))
by_kind true a s c t = t
by_kind false a s c t = store_true a (c.holds s) c.machine t

by_act : (a : Option Act) (b : ℕ) (c : InLine) → True c → True (step_by a b c)
by_act none b c t = t
by_act (some a) b c t = by_kind (eqb (b % 2) 0) a (b / 2) c t

module _ (acts : ℕ → Option Act) where
  pub step_true : (b : ℕ) (c : InLine) → True c → True (step acts b c)
  unfolding step
  step_true b c t = by_act (acts (b / 2)) b c t

  from_true : (bs : List ℕ) (c : InLine) → True c → True (steps_from acts bs c)
  unfolding steps_from
  from_true [] c t = t
  from_true (b ∷ bs) c t = from_true bs (step acts b c) (step_true b c t)

  pub steps_true : (bs : List ℕ) (m : Machine) → EndsTrue m.state → EndsTrue (steps acts bs m).state
  unfolding steps
  steps_true bs m t = from_true bs (begun m) t

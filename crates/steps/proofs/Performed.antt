-- The steps of a line one by one: the first of what is left, and the end.
use mathlib.Core.Path.{◌≡◌, refl, sym, ap, ◌∙◌, fun_ext}
use mathlib.Core.List.{List, [], ◌∷◌}
use mathlib.Core.Option.{Option, none}
use Prim.Native.Nat.{ℕ, zero, suc, ◌+◌, ◌≤◌, ◌<◌}
use native.Mathlib.Numerals.{add-one}
use lib.ListN.{length, drop, get_or, drop_of_length-le}
use lib.Seq.{drop-cons}
use Rattle.std.specs.Prelude.{None}
use Rattle.machine.specs.Machine.{Machine}
use Rattle.steps.specs.Steps.{Act, InLine, begun, step, steps_from}
use Rattle.steps.proofs.Stepped.{holds_in, in_line}

-- where no place has words no slot holds anything
pub none_held_yet : (m : Machine) → in_line m (None ∷ None ∷ None ∷ None ∷ []) ≡ begun m
unfolding holds_in
none_held_yet m = ap (λ (f : ℕ → Option (List ℕ)). record { machine = m; holds = f }) (fun_ext empty)
  where
    empty : (s : ℕ) → holds_in (None ∷ None ∷ None ∷ None ∷ []) s ≡ none
    empty zero = refl
    empty (suc zero) = refl
    empty (suc (suc zero)) = refl
    empty (suc (suc (suc zero))) = refl
    empty (suc (suc (suc (suc s)))) = refl

module _ (acts : ℕ → Option Act) (order : List ℕ) (i : ℕ) where
  next_step : (x : InLine) → i < length order
      → steps_from acts (drop i order) x ≡ steps_from acts (drop (i + 1) order) (step acts (get_or order i 0) x)
  unfolding steps_from
  next_step x h = rw (add-one, drop-cons order i 0 h)

  -- after one step more, what is left still leads to the end
  pub stepped : i < length order → (x : InLine) {y end : InLine} → y ≡ step acts (get_or order i 0) x
      → steps_from acts (drop i order) x ≡ end → steps_from acts (drop (i + 1) order) y ≡ end
  stepped h x e q = ap (steps_from acts (drop (i + 1) order)) e ∙ (sym (next_step x h) ∙ q)

  pub no_more_steps : (x : InLine) → length order ≤ i → steps_from acts (drop i order) x ≡ x
  unfolding steps_from
  no_more_steps x h = rw (drop_of_length-le order h)

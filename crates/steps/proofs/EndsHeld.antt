-- What the slots of a line hold, in the code's array: each end is base + length, from the beginning and after each fetch.
use mathlib.Core.Path.{◌≡◌, refl, sym, ap, ◌∙◌}
use mathlib.Core.Bool.{Bool, true, false}
use mathlib.Core.List.{List, [], ◌∷◌}
use Prim.Native.Nat.{ℕ, zero, suc, ◌<◌}
use lib.ListN.{length, get_or, set}
use lib.Seq.{get_or-set_same, get_or-set_other}
use lib.Dec.{eqb}
use borrow.Author.Tests.{eqb-true, eqb-false}
use Rattle.std.specs.Prelude.{Option, Some, None}
use Rattle.std.proofs.lemmas.List.{get_or_default}
use Rattle.slots.specs.declared.conditional_slot.LineSlot.{LineSlot}
use Rattle.machine.specs.Machine.{Machine}
use Rattle.machine.specs.Fetches.{values}
use Rattle.instructions.specs.Held.{end_held}
use Rattle.conditional.specs.LineSlots.{fetch_in}
use Rattle.conditional.proofs.LineSlots.{fetched_end_in}

-- of each slot that holds words
abbrev pub EndsHeld : List LineSlot → List (Option (List ℕ)) → Type 0
EndsHeld slots held =
    (s : ℕ) (d : LineSlot) (v : List ℕ) → s < length slots → get_or held s None ≡ Some v → end_held (get_or slots s d).slot v ≡ true

pub begun_held : (slots : List LineSlot) → EndsHeld slots (None ∷ None ∷ None ∷ None ∷ [])
begun_held slots zero d v h e = cc
begun_held slots (suc zero) d v h e = cc
begun_held slots (suc (suc zero)) d v h e = cc
begun_held slots (suc (suc (suc zero))) d v h e = cc
begun_held slots (suc (suc (suc (suc s)))) d v h e = cc

pub fetched_held : (slots : List LineSlot) (held : List (Option (List ℕ))) → EndsHeld slots held
    → (s : ℕ) (x : LineSlot) (m : Machine) {v : List ℕ} → s < length held → v ≡ values (fetch_in (get_or slots s x)) m
    → EndsHeld slots (set held s (Some v))
fetched_held slots held h s x m {v} k e i d w l q = go (eqb s i) refl
  where
    go : (t : Bool) → eqb s i ≡ t → end_held (get_or slots i d).slot w ≡ true
    go true r =
        let same : s ≡ i = eqb-true s i r in
        let here : get_or (set held s (Some v)) s None ≡ Some v = get_or-set_same held s (Some v) None k in
        let words : w ≡ v = (let u = rw (sym same) at q in cc) in
        rw (words, ← same, get_or_default slots s d x (rw (← same) at l)) (fetched_end_in m (get_or slots s x) e)
    go false r =
        h i d w l (sym (get_or-set_other held s i (Some v) None (λ p. eqb-false s i r (sym p))) ∙ q)

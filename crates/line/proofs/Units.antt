-- Rule 5: the units of a line's slots.
use mathlib.Core.Path.{◌≡◌, refl, sym, ap, ap₂, ◌∙◌}
use mathlib.Core.List.{List, [], ◌∷◌, ◌++◌}
use mathlib.Core.Bool.{Bool, false, ◌||◌, or-false, or_assoc}
use Prim.Native.Nat.{◌≤◌, ◌<◌}
use native.Mathlib.Omega.{arith}
use lib.ListN.{length, length-append}
use lib.Dec.{eqb}
use borrow.Author.Tests.{ne_eqb}
use Rattle.slots.specs.Lists.{some, twice}
use Rattle.slots.specs.declared.slot.Slot.{Slot}
use Rattle.slots.specs.declared.slot.Slot.TheVariants.{Alu, Shifter, Trellis, Tmax, Despread, Transfer}
use Rattle.slots.specs.declared.slot.Slot.TheVariants.{Arith, Buffer, Access, DabLoad}
use Rattle.sets.proofs.PlaceLists.{some_append, swap}
use Rattle.line.specs.Rules.{unit_of, rule5}
use Rattle.line.specs.Pass.{see}
use Rattle.line.proofs.SlotsSeen.{breaks5}

-- 0 is no unit
some_unit : (x : Slot) → 0 < unit_of x
some_unit (Alu b op t f s) = omega arith
some_unit (Shifter b op t f s) = omega arith
some_unit (Trellis b op t f s q) = omega arith
some_unit (Tmax b op t f s) = omega arith
some_unit (Despread b op t f p o) = omega arith
some_unit (Transfer b op t f) = omega arith
some_unit (Arith ialu op t f s i) = omega arith
some_unit (Buffer ialu op t f) = omega arith
some_unit (Access ialu op w file n f s i) = omega arith
some_unit (DabLoad ialu b t f i) = omega arith

no_unit : (x : Slot) → eqb 0 (unit_of x) ≡ false
no_unit x = ne_eqb 0 (unit_of x) (λ e. let h = some_unit x in omega arith)

-- a list with one more has two that are the same where it had, or where the last is one of the others
pub twice_more : {A : Type 0} (same : A → A → Bool) (ps : List A) (x : A)
    → twice same (ps ++ (x ∷ [])) ≡ (twice same ps || some (λ y. same y x) ps)
twice_more same [] x = refl
twice_more same (y ∷ ps) x =
    ap₂ ◌||◌ (some_append (same y) ps (x ∷ []) ∙ ap (λ (t : Bool). some (same y) ps || t) (or-false (same y x)))
    (twice_more same ps x)
    ∙ swap (some (same y) ps) (same y x) (twice same ps) (some (λ y. same y x) ps)

last_three : (ps : List Slot) (x : Slot) → length (ps ++ (x ∷ [])) ≤ 4
    → breaks5 ps x ≡ some (λ y. eqb (unit_of y) (unit_of x)) ps
unfolding see
last_three [] x h = rw (no_unit x)
last_three (a ∷ []) x h = rw (no_unit x) (simp or-false)
last_three (a ∷ b ∷ []) x h = rw (no_unit x) (simp or-false)
last_three (a ∷ b ∷ c ∷ []) x h = simp (or-false, or_assoc)
last_three (a ∷ b ∷ c ∷ d ∷ ps) x h = absurd (omega (arith, length-append ps (x ∷ [])))

pub five_more : (ps : List Slot) (x : Slot) → length (ps ++ (x ∷ [])) ≤ 4
    → rule5 (ps ++ (x ∷ [])) ≡ (rule5 ps || breaks5 ps x)
five_more ps x h =
    twice_more (λ y z. eqb (unit_of y) (unit_of z)) ps x ∙ ap (λ (t : Bool). rule5 ps || t) (sym (last_three ps x h))

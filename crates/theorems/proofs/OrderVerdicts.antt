-- The checks on a line just before its first step: those of the running state, then that of the order.
use mathlib.Core.Path.{◌≡◌, refl}
use mathlib.Core.Bool.{Bool, true, false}
use mathlib.Core.List.{List}
use Prim.Native.Nat.{ℕ}
use native.Mathlib.Omega.{arith}
use lib.Dec.{eqb}
use borrow.Author.Tests.{eqb-true, eqb-false, eq-eqb, ne_eqb}
use Rattle.slots.specs.declared.conditional_slot.Conditional.{Conditional}
use Rattle.line.specs.Rules.{verdict}
use Rattle.machine.specs.Machine.{Machine}
use Rattle.execution.specs.PlainLine.{refusal_of}
use Rattle.stepping.specs.OrderedLine.{ordered_refusal}
use Rattle.orders.specs.Orders.{admissible}

module _ (line : List Conditional) (m : Machine) (order : List ℕ) where
  -- a line that is not refused passes both
  pub not_refused_ordered : (ordered_refusal line m order).code ≡ 0
      → ((refusal_of line m).code ≡ 0) × (admissible line m order ≡ true)
  unfolding ordered_refusal
  not_refused_ordered e = go (eqb (refusal_of line m).code 0) (admissible line m order) refl refl
    where
      go : (b t : Bool) → eqb (refusal_of line m).code 0 ≡ b → admissible line m order ≡ t
          → ((refusal_of line m).code ≡ 0) × (admissible line m order ≡ true)
      go true true p q = (eqb-true (refusal_of line m).code 0 p, q)
      go true false p q = absurd (let z : ◌≡◌ {A = ℕ} 11 0 = rw (p, q) at e in omega arith)
      go false t p q = absurd (eqb-false (refusal_of line m).code 0 p (rw p at e))

  pub passed_both : (refusal_of line m).code ≡ 0 → admissible line m order ≡ true
      → ordered_refusal line m order ≡ verdict 0 0
  unfolding ordered_refusal
  passed_both e a = rw (eq-eqb (refusal_of line m).code 0 e, a)

  -- the order is judged only where the running state does not refuse
  pub refused_before : ((refusal_of line m).code ≡ 0 → ⊥) → ordered_refusal line m order ≡ refusal_of line m
  unfolding ordered_refusal
  refused_before e = rw (ne_eqb (refusal_of line m).code 0 e)

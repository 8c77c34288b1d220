-- One line of the ordered run and of the plain run: done, it leaves both alike, and refused, it ends both alike.
use mathlib.Core.Path.{◌≡◌, refl}
use mathlib.Core.Bool.{Bool, true, false}
use mathlib.Core.List.{List, [], ◌∷◌}
use Prim.Native.Nat.{ℕ, suc, ◌+◌, ◌-◌, ◌≤◌, ◌<◌}
use native.Mathlib.Omega.{arith}
use lib.ListN.{length, drop, length-take}
use lib.Seq.{take_all}
use lib.Dec.{eqb}
use borrow.Author.Tests.{eq-eqb, ne_eqb, le-ltb, lt-leb}
use Rattle.bits.specs.Pick.{pick}
use Rattle.slots.proofs.Picks.{picked}
use Rattle.slots.specs.declared.conditional_slot.Conditional.{Conditional}
use Rattle.line.proofs.Accepted.{Accepted}
use Rattle.machine.specs.Machine.{Machine}
use Rattle.execution.specs.PlainLine.{plain_line, refusal_of, line_of}
use Rattle.orders.specs.Orders.{step_bytes, admissible}
use Rattle.runs.specs.Plain.{End, ended, report, line_steps, plain_from}
use Rattle.ordered.specs.Ordered.{order_bytes, order_of, ordered_from}
use Rattle.stepping.specs.OrderedLine.{made_of}
use Rattle.theorems.proofs.LineOrdered.{line_size, order_steps, line_ordered}
use Rattle.theorems.proofs.OrderVerdicts.{passed_both, refused_before}

-- ---- the limit that lets the ordered run come as far as the plain run

-- the least of them: a refusal is met only while a step is left
unfoldable pub enough : End → ℕ
enough e = pick (eqb e.report.code 0) e.report.steps (suc e.report.steps)

pub enough_done : (e : End) → e.report.code ≡ 0 → enough e ≡ e.report.steps
unfolding enough
enough_done e h = rw (eq-eqb e.report.code 0 h)

pub enough_above : (e : End) → enough e ≤ suc e.report.steps
unfolding enough
enough_above e =
    picked (λ (n : ℕ). n ≤ suc e.report.steps) (eqb e.report.code 0) _ _ (λ _. omega arith) (λ _. omega arith)

-- the steps of a run only grow
pub grows : (lines steps : ℕ) (ws : List (List ℕ)) (m : Machine) → steps ≤ enough (plain_from lines steps ws m)
unfolding plain_from enough
grows lines steps [] m = omega arith
grows lines steps (w ∷ ws) m =
    go (eqb (refusal_of (line_of w) m).code 0) refl
    (grows (suc lines) (steps + line_steps (line_of w)) ws (plain_line (line_of w) m))
  where
    rest : End
    rest = plain_from (suc lines) (steps + line_steps (line_of w)) ws (plain_line (line_of w) m)

    refused : End
    refused = ended (report (refusal_of (line_of w) m).code lines (refusal_of (line_of w) m).slot lines steps) m

    go : (b : Bool) → eqb (refusal_of (line_of w) m).code 0 ≡ b → steps + line_steps (line_of w) ≤ enough rest
        → steps ≤ enough (pick b rest refused)
    go true q h = omega arith
    go false q h = rw q (omega arith)

-- ---- one line of the plain run

module _ (lines steps : ℕ) (w : List ℕ) (ws : List (List ℕ)) (m : Machine) where
  pub plain_next : (refusal_of (line_of w) m).code ≡ 0
      → plain_from lines steps (w ∷ ws) m
      ≡ plain_from (suc lines) (steps + line_steps (line_of w)) ws (plain_line (line_of w) m)
  unfolding plain_from
  plain_next e = rw (eq-eqb (refusal_of (line_of w) m).code 0 e)

  -- a refusal is met with a step left
  pub enough_refused : ((refusal_of (line_of w) m).code ≡ 0 → ⊥) → enough (plain_from lines steps (w ∷ ws) m) ≡ suc steps
  unfolding enough plain_from
  enough_refused e =
      let refused = ne_eqb (refusal_of (line_of w) m).code 0 e in
      rw (refused, refused)

-- ---- one line of both runs

module _ (limit lines steps : ℕ) (w : List ℕ) (ws : List (List ℕ)) (orders : List ℕ) (m : Machine) where
  abbrev line : List Conditional
  line = line_of w

  -- a line that both runs do leaves the ordered run where it leaves the plain run
  pub ordered_next : Accepted w → 8 ≤ length orders → (refusal_of line m).code ≡ 0
      → admissible line m (order_of orders) ≡ true → steps + line_steps line ≤ limit
      → ordered_from limit lines steps (w ∷ ws) orders m
      ≡ ordered_from limit (suc lines) (steps + line_steps line) ws (drop order_bytes orders) (plain_line line m)
  unfolding ordered_from
  ordered_next a h passed admitted l =
      let size = line_size w a in
      let eight : length (order_of orders) ≡ 8 = simp length-take (omega arith) in
      let count = order_steps w a (order_of orders) eight in
      let made : made_of (limit - steps) line (order_of orders) ≡ step_bytes (length line) (order_of orders) =
      take_all (limit - steps) (step_bytes (length line) (order_of orders)) (omega arith) in
      rw (
        lt-leb limit steps (omega arith),
        passed_both line m (order_of orders) passed admitted,
        made,
        count,
        le-ltb (line_steps line) (line_steps line) (omega arith),
        line_ordered w a m passed (order_of orders) admitted,
      )

  -- a line that the running state refuses ends both
  pub both_refused : ((refusal_of line m).code ≡ 0 → ⊥) → steps < limit
      → ordered_from limit lines steps (w ∷ ws) orders m ≡ plain_from lines steps (w ∷ ws) m
  unfolding ordered_from plain_from
  both_refused e l =
      rw (lt-leb limit steps l, refused_before line m (order_of orders) e, ne_eqb (refusal_of line m).code 0 e)

-- The ordered run's codes: 0, one of 1 to 11, or one of 15 to 17 for every image, orders, limit and machine, with line and slot 0 for
-- 0, 1 and 2, and slot 0 for 11.
use mathlib.Core.Path.{◌≡◌, refl}
use mathlib.Core.Logic.{◌⊎◌, inl, inr}
use mathlib.Core.List.{List, [], ◌∷◌}
use Prim.Native.Nat.{ℕ, suc, ◌+◌, ◌-◌, ◌*◌, ◌≤◌}
use native.Mathlib.Omega.{arith}
use lib.ListN.{length, drop}
use lib.Dec.{ltb, leb, eqb}
use borrow.Author.Tests.{eqb-false}
use Rattle.line.specs.Rules.{verdict}
use Rattle.line.specs.Verdicts.{Verdict}
use Rattle.slots.specs.declared.conditional_slot.Conditional.{Conditional}
use Rattle.slots.proofs.Picks.{picked}
use Rattle.image.specs.Directory.{line_count}
use Rattle.image.specs.Check.{lines_of}
use Rattle.machine.specs.Machine.{Machine, put_right}
use Rattle.execution.specs.PlainLine.{refusal_of, line_of}
use Rattle.steps.specs.Steps.{in_place}
use Rattle.orders.specs.Orders.{admissible}
use Rattle.runs.specs.Plain.{End, ended, report, line_steps, before_lines}
use Rattle.theorems.proofs.CheckCodes.{UpTo}
use Rattle.theorems.proofs.RunCodes.{StateCode, state_code, wider, before_code}
use Rattle.ordered.specs.Ordered.{order_bytes, order_of, ordered_from, ordered_run_on, ordered_run}
use Rattle.stepping.specs.OrderedLine.{made_of, ordered_refusal}

-- none of the plain run's codes is 11
not_11 : {code : ℕ} → UpTo 10 17 code → code ≡ 11 → ⊥
not_11 (inl l) e = omega arith
not_11 (inr q) e = omega (arith, q.0)

-- ---- the checks on a line

abbrev LineCode : Verdict → Type 0
LineCode v = (v.code ≡ 0) ⊎ ((8 ≤ v.code) × UpTo 11 17 v.code × (v.code ≡ 11 → v.slot ≡ 0))

state_line : (v : Verdict) → StateCode v → LineCode v
state_line v (inl e) = inl (rw e)
state_line v (inr h) = inr (h.0, wider 10 11 17 17 (omega arith) (omega arith) h.1, λ e. absurd (not_11 h.1 e))

line_code : (line : List Conditional) (m : Machine) (order : List ℕ) → LineCode (ordered_refusal line m order)
unfolding ordered_refusal refusal_of
line_code line m order =
    picked LineCode (eqb (refusal_of line m).code 0) _ _
    (λ _. picked LineCode (admissible line m order) (verdict 0 0) (verdict 11 0) (λ _. inl refl)
    (λ _. inr (omega arith, inl (omega arith), λ _. refl)))
    (λ _. state_line (refusal_of line m) (state_code (length m.memory) _))

-- ---- the run

abbrev pub OrderReported : End → Type 0
OrderReported e =
    UpTo 11 17 e.report.code
    × (e.report.code ≤ 2 → (e.report.line ≡ 0) × (e.report.slot ≡ 0))
    × (e.report.code ≡ 11 → e.report.slot ≡ 0)

-- a run that ends with code 0
stopped : (lines steps : ℕ) (m : Machine) → OrderReported (ended (report 0 0 0 lines steps) m)
stopped lines steps m = (inl (omega arith), λ _. (refl, refl), λ _. refl)

lines_code : (limit lines steps : ℕ) (ws : List (List ℕ)) (orders : List ℕ) (m : Machine)
    → OrderReported (ordered_from limit lines steps ws orders m)
unfolding ordered_from
lines_code limit lines steps [] orders m = stopped lines steps m
lines_code limit lines steps (w ∷ ws) orders m =
    let line = line_of w in
    let refusal = ordered_refusal line m (order_of orders) in
    let made = made_of (limit - steps) line (order_of orders) in
    picked OrderReported (leb limit steps) _ _ (λ _. stopped lines steps m)
    (λ _. picked OrderReported (eqb refusal.code 0) _ _
    (λ _. picked OrderReported (ltb (length made) (line_steps line)) _ _ (λ _. stopped lines (steps + length made) (in_place line made m))
    (λ _. lines_code limit (suc lines) (steps + length made) ws (drop order_bytes orders) (in_place line made m)))
    (λ e. told refusal (eqb-false refusal.code 0 e) (line_code line m (order_of orders))))
  where
    told : (v : Verdict) → (v.code ≡ 0 → ⊥) → LineCode v
        → OrderReported (ended (report v.code lines v.slot lines steps) m)
    told v n (inl e) = absurd (n e)
    told v n (inr h) = (h.1, λ l. absurd (omega (arith, h.0, l)), h.2)

ordered_on_reported : (w orders : List ℕ) (limit : ℕ) (m : Machine) → OrderReported (ordered_run_on w orders limit m)
unfolding ordered_run_on
ordered_on_reported w orders limit m =
    picked OrderReported (eqb (before_lines w (length m.memory)).code 0) _ _
    (λ _. picked OrderReported (eqb (length orders) (order_bytes * line_count w)) _ _
    (λ _. lines_code limit 0 0 (lines_of w) orders m) (λ _. (inl (omega arith), λ _. (refl, refl), λ _. refl)))
    (λ _. let (code, zero) = before_code w (length m.memory) m in (wider 10 11 17 17 (omega arith) (omega arith) code, zero, λ e. absurd (not_11 code e)))

pub ordered_reported : (w orders : List ℕ) (limit : ℕ) (m : Machine) → OrderReported (ordered_run w orders limit m)
unfolding ordered_run
ordered_reported w orders limit m = ordered_on_reported w orders limit (put_right m)

-- demand 1 for the ordered run: 0, one of 1 to 11, or one of 15 to 17
pub ordered_codes : (w orders : List ℕ) (limit : ℕ) (m : Machine) → UpTo 11 17 (ordered_run w orders limit m).report.code
ordered_codes w orders limit m = (ordered_reported w orders limit m).0

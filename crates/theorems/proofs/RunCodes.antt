-- The plain run's codes: 0, one of 1 to 10, or one of 15 to 17 for every image and machine, with line and slot 0 for 0, 1 and 2.
use mathlib.Core.Path.{◌≡◌, refl}
use mathlib.Core.Bool.{Bool}
use mathlib.Core.Logic.{◌⊎◌, inl, inr}
use mathlib.Core.List.{List, [], ◌∷◌}
use Prim.Native.Nat.{ℕ, suc, ◌+◌, ◌≤◌}
use native.Mathlib.Omega.{arith}
use lib.ListN.{length}
use lib.Dec.{ltb, eqb}
use borrow.Author.Tests.{eqb-false}
use Rattle.line.specs.Rules.{verdict, refuse}
use Rattle.line.specs.Verdicts.{Verdict}
use Rattle.slots.proofs.Picks.{picked}
use Rattle.image.specs.Directory.{max_words}
use Rattle.image.specs.Check.{lines_of}
use Rattle.theorems.proofs.CheckCodes.{UpTo, check_codes}
use Rattle.machine.specs.Machine.{Machine, put_right}
use Rattle.refusals.specs.Refusals.{rule9, rule17, rule8, rule10, run_verdict}
use Rattle.conditional.specs.declared.line_slot.Fetched.{Fetched}
use Rattle.execution.specs.PlainLine.{plain_line, refusal_of, line_of}
use Rattle.runs.specs.Plain.{End, ended, report, line_steps, plain_from, before_lines, plain_run_on, plain_run}

-- ---- the running state's verdict on a line

abbrev pub StateCode : Verdict → Type 0
StateCode v = (v ≡ verdict 0 0) ⊎ ((8 ≤ v.code) × UpTo 10 17 v.code)

refused_code : (code : ℕ) (rule : List Fetched → Bool) (xs : List Fetched) (v : Verdict) → 8 ≤ code → UpTo 10 17 code
    → StateCode v → StateCode (refuse code rule xs v)
refused_code code rule xs v h k p = picked StateCode (rule xs) _ v (λ _. inr (h, k)) (λ _. p)

pub state_code : (size : ℕ) (xs : List Fetched) → StateCode (run_verdict size xs)
unfolding run_verdict
state_code size xs =
    refused_code 9 (rule9 size) xs _ (omega arith) (inl (omega arith))
    (refused_code 17 rule17 xs _ (omega arith) (inr (omega arith, omega arith))
    (refused_code 8 (rule8 size) xs _ (omega arith) (inl (omega arith))
    (refused_code 10 rule10 xs _ (omega arith) (inl (omega arith)) (inl refl))))

-- ---- the run

-- 0, one of 1 to 10, or one of 15 to 17; code, line and slot 0 together, or a rule of a line
abbrev pub Reported : End → Type 0
Reported e = UpTo 10 17 e.report.code × (e.report.code ≤ 2 → (e.report.line ≡ 0) × (e.report.slot ≡ 0))

lines_code : (lines steps : ℕ) (ws : List (List ℕ)) (m : Machine) → Reported (plain_from lines steps ws m)
unfolding plain_from refusal_of
lines_code lines steps [] m = (inl (omega arith), λ _. (refl, refl))
lines_code lines steps (w ∷ ws) m =
    picked Reported (eqb (refusal_of (line_of w) m).code 0) _ _
    (λ _. lines_code (suc lines) (steps + line_steps (line_of w)) ws (plain_line (line_of w) m))
    (λ e. told (refusal_of (line_of w) m) (eqb-false (refusal_of (line_of w) m).code 0 e) (state_code (length m.memory) _))
  where
    told : (v : Verdict) → (v.code ≡ 0 → ⊥) → StateCode v → Reported (ended (report v.code lines v.slot lines steps) m)
    told v n (inl e) = absurd (n (rw e))
    told v n (inr h) = (h.1, λ l. absurd (omega (arith, h.0)))

-- more numbers than before
pub wider : (low high late later : ℕ) {code : ℕ} → low ≤ high → late ≤ later → UpTo low late code → UpTo high later code
wider low high late later h k (inl l) = inl (omega arith)
wider low high late later h k (inr e) = inr (e.0, omega (arith, e.1))

-- what a run answers before its lines
pub before_code : (w : List ℕ) (size : ℕ) (m : Machine) → Reported (ended (before_lines w size) m)
before_code w size m =
    picked (λ r. Reported (ended r m)) (ltb max_words size) _ _ (λ _. (inl (omega arith), λ _. (refl, refl)))
    (λ _. let (code, zero) = check_codes w in (wider 7 10 16 17 (omega arith) (omega arith) code, zero))

run_on_reported : (w : List ℕ) (m : Machine) → Reported (plain_run_on w m)
unfolding plain_run_on
run_on_reported w m =
    picked Reported (eqb (before_lines w (length m.memory)).code 0) _ _ (λ _. lines_code 0 0 (lines_of w) m)
    (λ _. before_code w (length m.memory) m)

pub run_reported : (w : List ℕ) (m : Machine) → Reported (plain_run w m)
unfolding plain_run
run_reported w m = run_on_reported w (put_right m)

-- demand 1 for the plain run: 0, one of 1 to 10, or one of 15 to 17
pub run_codes : (w : List ℕ) (m : Machine) → UpTo 10 17 (plain_run w m).report.code
run_codes w m = (run_reported w m).0

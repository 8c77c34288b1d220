-- A line that the checker passes has the slots that the runs take, and one that the running state does not refuse breaks
-- none of the rules 9, 17, 8 and 10.
use mathlib.Core.Path.{◌≡◌, refl, sym, ap, ◌∙◌}
use mathlib.Core.Bool.{false}
use mathlib.Core.List.{List, [], ◌∷◌}
use Prim.Native.Nat.{ℕ}
use native.Mathlib.Omega.{arith}
use lib.ListN.{length}
use Rattle.slots.specs.declared.conditional_slot.Conditional.{Conditional}
use Rattle.line.specs.Rules.{slots_of}
use Rattle.line.proofs.Accepted.{as_read, Accepted, unbroken}
use Rattle.machine.specs.Machine.{Machine}
use Rattle.refusals.specs.Refusals.{fetch_line, rule9, rule17, rule8, rule10, run_verdict}
use Rattle.execution.specs.PlainLine.{line_of, refusal_of}

-- ---- the slots of an accepted line

as_read_lem : (xs : List Conditional) → slots_of (as_read xs) ≡ xs
as_read_lem [] = refl
as_read_lem (x ∷ xs) = ap (λ (l : List Conditional). x ∷ l) (as_read_lem xs)

pub line_slots : (w : List ℕ) (a : Accepted w) → a.slots ≡ line_of w
line_slots w a = sym (ap slots_of a.readable ∙ as_read_lem a.slots)

-- ---- the rules of the running state

pub record NotRefused (line : List Conditional) (m : Machine) : Type 0 where
  pub inside : rule9 (length m.memory) (fetch_line line m) ≡ false
  pub unaligned : rule17 (fetch_line line m) ≡ false
  pub placed : rule8 (length m.memory) (fetch_line line m) ≡ false
  pub words_once : rule10 (fetch_line line m) ≡ false

pub not_refused : (line : List Conditional) (m : Machine) → (refusal_of line m).code ≡ 0 → NotRefused line m
unfolding refusal_of run_verdict
not_refused line m e =
    let a = unbroken 9 (rule9 (length m.memory)) (fetch_line line m) _ (omega arith) e in
    let q = unbroken 17 rule17 (fetch_line line m) _ (omega arith) a.1 in
    let b = unbroken 8 (rule8 (length m.memory)) (fetch_line line m) _ (omega arith) q.1 in
    let c = unbroken 10 rule10 (fetch_line line m) _ (omega arith) b.1 in
    record { inside = a.0; unaligned = q.0; placed = b.0; words_once = c.0 }

-- The check call's codes: 0, one of 1 to 7, 15 or 16 for every image, with line and slot 0 for 0, 1 and 2.
use mathlib.Core.Path.{◌≡◌, refl}
use mathlib.Core.Bool.{Bool}
use mathlib.Core.Logic.{◌⊎◌, inl, inr}
use mathlib.Core.List.{List, [], ◌∷◌}
use Prim.Native.Nat.{ℕ, suc, ◌≤◌}
use native.Mathlib.Omega.{arith}
use lib.ListN.{length}
use lib.Dec.{ltb, eqb}
use borrow.Author.Tests.{eqb-false}
use Rattle.std.specs.Prelude.{Result, Ok, Err}
use Rattle.line.specs.Rules.{verdict, refuse, rule3, rule15, rule16, rule4, rule5, rule6, rule7, slots_verdict, slots_of, reads_verdict}
use Rattle.image.specs.Directory.{max_words, directory}
use Rattle.line.specs.Lines.{read_line}
use Rattle.image.specs.Check.{answer, lines_of, line_by_line, check_of}
use Rattle.slots.specs.Conditionals.{unconditional}
use Rattle.slots.specs.declared.slot.Slot.{Slot}
use Rattle.slots.specs.declared.conditional_slot.Conditional.{Conditional}
use Rattle.slots.specs.declared.slot.SlotRefusal.{SlotRefusal}
use Rattle.line.specs.Verdicts.{Verdict}
use Rattle.slots.proofs.Picks.{picked}
use Rattle.image.specs.declared.check.Answer.{Answer}

-- one of the numbers up to last, or one of document 02's, 15 up to late
abbrev pub UpTo : ℕ → ℕ → ℕ → Type 0
UpTo last late code = (code ≤ last) ⊎ ((15 ≤ code) × (code ≤ late))

abbrev LineCode : Verdict → Type 0
LineCode v = (v ≡ verdict 0 0) ⊎ ((3 ≤ v.code) × UpTo 7 16 v.code)

refused_code : {A : Type 0} (code : ℕ) (rule : List A → Bool) (xs : List A) (v : Verdict) → 3 ≤ code → UpTo 7 16 code → LineCode v
    → LineCode (refuse code rule xs v)
refused_code code rule xs v h k p = picked LineCode (rule xs) _ v (λ _. inr (h, k)) (λ _. p)

slots_code : (xs : List Slot) → LineCode (slots_verdict xs)
unfolding slots_verdict
slots_code xs =
    refused_code 4 rule4 xs _ (omega arith) (inl (omega arith))
    (refused_code 5 rule5 xs _ (omega arith) (inl (omega arith))
    (refused_code 6 rule6 xs _ (omega arith) (inl (omega arith))
    (refused_code 7 rule7 xs _ (omega arith) (inl (omega arith)) (inl refl))))

pub line_code : (rs : List (Result Conditional SlotRefusal)) → LineCode (reads_verdict rs)
unfolding reads_verdict
line_code rs =
    refused_code 3 rule3 rs _ (omega arith) (inl (omega arith))
    (refused_code 15 rule15 rs _ (omega arith) (inr (omega arith, omega arith))
    (refused_code 16 rule16 rs _ (omega arith) (inr (omega arith, omega arith)) (slots_code (unconditional (slots_of rs)))))

-- code, line and slot 0 together, or a rule of a line
abbrev pub CheckCode : Answer → Type 0
CheckCode a = UpTo 7 16 a.code × (a.code ≤ 2 → (a.line ≡ 0) × (a.slot ≡ 0))

lines_code : (k : ℕ) (ws : List (List ℕ)) → CheckCode (line_by_line k ws)
unfolding line_by_line
lines_code k [] = (inl (omega arith), λ _. (refl, refl))
lines_code k (w ∷ ws) =
    picked CheckCode (eqb (reads_verdict (read_line w)).code 0) _ _ (λ _. lines_code (suc k) ws)
    (λ e. told (reads_verdict (read_line w)) (eqb-false (reads_verdict (read_line w)).code 0 e) (line_code (read_line w)))
  where
    told : (v : Verdict) → (v.code ≡ 0 → ⊥) → LineCode v → CheckCode (answer v.code k v.slot)
    told v n (inl e) = absurd (n (rw e))
    told v n (inr h) = (h.1, λ l. absurd (omega (arith, h.0)))

-- demand 1 for the check call: 0, one of 1 to 7, 15 or 16; line and slot are 0 for 0, 1 and 2
pub check_codes : (w : List ℕ) → CheckCode (check_of w)
unfolding check_of
check_codes w =
    picked CheckCode (ltb max_words (length w)) _ _ (λ _. (inl (omega arith), λ _. (refl, refl)))
    (λ _. picked CheckCode (directory w) _ _ (λ _. lines_code 0 (lines_of w)) (λ _. (inl (omega arith), λ _. (refl, refl))))

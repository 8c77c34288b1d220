-- The run's walk over the lines by their numbers: what a line asks, and what it leaves.
use mathlib.Core.Path.{◌≡◌, sym, ap, ◌∙◌}
use mathlib.Core.List.{List}
use mathlib.Core.Bool.{true}
use Prim.Native.Nat.{ℕ, ◌+◌, ◌-◌, ◌*◌, ◌/◌, ◌≤◌, ◌<◌}
use native.Mathlib.Numerals.{add-one}
use native.Mathlib.Omega.{arith}
use lib.ListN.{length}
use borrow.Author.Tests.{ne_eqb}
use Rattle.std.specs.Prelude.{Result, Ok, Err}
use Rattle.slots.specs.Conditionals.{slot_words}
use Rattle.line.specs.Rules.{reads_verdict}
use Rattle.line.specs.Lines.{sized, read_line, line_verdict}
use Rattle.line.specs.Verdicts.{rule_code, verdict_of}
use Rattle.line.specs.declared.rules.Broken.{Broken}
use Rattle.line.proofs.RuleCodes.{some_code}
use Rattle.line.proofs.Lines.{whole_line}
use Rattle.line.proofs.Accepted.{accepted_line}
use Rattle.image.specs.Directory.{line_count}
use Rattle.image.specs.Check.{line_at, lines_from, check_of}
use Rattle.image.proofs.Walk.{lines_none, lines_next}
use Rattle.image.proofs.AcceptedImage.{AcceptedAt, accepted_at}
use Rattle.machine.specs.Machine.{Machine}
use Rattle.execution.specs.PlainLine.{refusal_of, line_end, line_of}
use Rattle.execution.proofs.NotRefused.{line_slots}
use Rattle.runs.specs.Plain.{ended, report, line_steps, plain_from}

-- ---- a line's slots

slots_counted : (v : List ℕ) → sized (length v) ≡ true → (reads_verdict (read_line v)).code ≡ 0
    → length (line_of v) ≡ length v / slot_words
slots_counted v z e =
    let a = accepted_line v z e in
    let n : length a.slots ≡ length (line_of v) = ap length (line_slots v a) in
    omega (arith, a.words)

-- ---- line i of n, of an image that the check passes

module _ (w : List ℕ) (i n : ℕ) where
  pub run_end : (s : ℕ) (m : Machine) → n ≤ i → ended (report 0 0 0 i s) m ≡ plain_from i s (lines_from w i (n - i)) m
  unfolding plain_from
  run_end s m h = rw (lines_none w i n h)

  module _ (ok : (check_of w).code ≡ 0) (c : n ≡ line_count w) (h : i < n) {line : List ℕ} (l : line ≡ line_at w i) where
    pub here : AcceptedAt w i
    here = accepted_at w i ok (omega arith)

    pub few_steps : 2 * (length line / slot_words) ≤ 8
    few_steps = rw l (let z = whole_line (line_at w i) here.whole in omega (arith, z.words, z.four))

    pub steps_are : line_steps (line_of (line_at w i)) ≡ 2 * (length line / slot_words)
    steps_are = rw (l, slots_counted (line_at w i) here.whole here.unbroken)

    -- the line passed the check
    pub line_passed : (line_verdict line).code ≡ 0
    unfolding line_verdict
    line_passed = rw (l, here.whole) here.unbroken

    module _ (s : ℕ) (m e : Machine) (f : e ≡ line_end (line_of line) m) (r : Result (Unit {0}) Broken)
        (t : verdict_of r ≡ refusal_of (line_of line) m) where
      told : {u : Result (Unit {0}) Broken} → r ≡ u → verdict_of u ≡ refusal_of (line_of (line_at w i)) m
      told q = sym (ap verdict_of q) ∙ (rw l at t)

      left : e ≡ line_end (line_of (line_at w i)) m
      left = rw l at f

      pub line_refused : {b : Broken} → r ≡ Err b
          → ended (report (rule_code b.rule) i b.slot i s) e ≡ plain_from i s (lines_from w i (n - i)) m
      unfolding plain_from line_end
      line_refused {b} q =
          rw (lines_next w i n h, left) (rw (← told q, ne_eqb (rule_code b.rule) 0 (some_code b.rule)))

      pub line_ran : {x : Unit {0}} → r ≡ Ok x
          → plain_from i s (lines_from w i (n - i)) m
          ≡ plain_from (i + 1) (s + 2 * (length line / slot_words)) (lines_from w (i + 1) (n - (i + 1))) e
      unfolding plain_from line_end
      line_ran q = rw (lines_next w i n h, left, add-one i, ← steps_are) (rw (← told q))

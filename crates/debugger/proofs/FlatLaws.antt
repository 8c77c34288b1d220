-- What a call over flat words answers and leaves, by its ways out: a buffer of a wrong length, a refusal, or the call itself.
use mathlib.Core.Path.{◌≡◌, refl, sym, ap, ◌∙◌}
use mathlib.Core.Bool.{Bool, true, false}
use mathlib.Core.List.{List}
use Prim.Native.Nat.{ℕ, ◌+◌, ◌/◌, ◌≤◌, ◌<◌}
use native.Mathlib.Omega.{arith}
use lib.ListN.{length, get_or, drop}
use lib.Seq.{get_or-take, get_or-drop}
use lib.Dec.{eqb}
use borrow.Author.Tests.{eqb-true, lt-ltb, le-ltb}
use Rattle.std.specs.Prelude.{Some}
use Rattle.bits.specs.Flags.{bit}
use Rattle.slots.proofs.Tests.{and_left, and_right}
use Rattle.slots.proofs.Picks.{eq_taken, eq_left}
use Rattle.image.specs.declared.check.Answer.{Answer}
use Rattle.image.specs.Check.{check_of}
use Rattle.machine.specs.Machine.{Machine}
use Rattle.machine.specs.Conditions.{ialu_flags, holds_in, holds, condition_of}
use Rattle.layout.specs.Layout.{state_words, state_of, words_read, state_written, machine_of}
use Rattle.runs.specs.declared.report.Report.{Report}
use Rattle.runs.specs.Plain.{End, ended}
use Rattle.debugger.specs.FlatRuns.{bad_buffer, answer_words, report_words, words_of_answer, words_of_report, checked, flat_check, condition_number, flat_condition, flat, flat_end, fit, flat_by}

module _ (image report : List ℕ) where
  pub bad_answer : (length report ≡ answer_words → ⊥) → checked bad_buffer report ≡ flat_check image report
  unfolding flat_check
  bad_answer f = eq_left _ _ _ _ f refl

  pub flat_checked : (a : Answer) (words : List ℕ) → length report ≡ answer_words → a ≡ check_of image
      → words ≡ words_of_answer a → checked a.code words ≡ flat_check image report
  unfolding flat_check
  flat_checked a words l e w = eq_taken _ _ _ _ l (rw (w, e) refl)

-- ---- the condition

-- an IALU's flag group, among the words of the state
group_read : (ialu : ℕ) (state : List ℕ) → ialu ≤ 1 → get_or state (220 + ialu) 0 ≡ ialu_flags ialu (state_of state).flags
unfolding state_of
group_read ialu state h =
    let e : 214 + (6 + ialu) ≡ 220 + ialu = omega arith in
    rw (get_or-take 8 (drop 214 state) (6 + ialu) 0 (omega arith), get_or-drop 214 state (6 + ialu) 0, e)

yes_or_no : (b : Bool) → bit b ≡ condition_number (Some b)
yes_or_no true = refl
yes_or_no false = refl

module _ (number : ℕ) (state : List ℕ) where
  pub bad_state : (length state ≡ state_words → ⊥) → bad_buffer ≡ flat_condition number state
  unfolding flat_condition
  bad_state f = eq_left _ _ _ _ f refl

  pub bad_condition : length state ≡ state_words → 11 < number → 12 ≡ flat_condition number state
  unfolding flat_condition condition_of
  bad_condition l h = eq_taken _ _ _ _ l (rw (lt-ltb 11 number h) refl)

  pub condition_told : {b : Bool} → length state ≡ state_words → number ≤ 11
      → b ≡ holds_in number (get_or state (220 + number / 6) 0) → bit b ≡ flat_condition number state
  unfolding flat_condition condition_of holds
  condition_told {b} l h e =
      eq_taken _ _ _ _ l (rw (le-ltb 11 number h, ← group_read (number / 6) state (omega arith), ← e) (yes_or_no b))

-- ---- the runs

module _ (run : Machine → End) (state memory report : List ℕ) {b : Bool} (e : b ≡ fit state report) where
  pub bad_buffer_lem : b ≡ false → flat bad_buffer state memory report ≡ flat_by run state memory report
  unfolding flat_by
  bad_buffer_lem t = rw (sym e ∙ t)

  pub report_fits : b ≡ true → length report ≡ report_words
  report_fits t = eqb-true _ _ (and_right (eqb (length state) state_words) _ (sym e ∙ t))

  -- the state's words are read, the image runs on them, and they are written back
  pub flat_ran : b ≡ true → {files words reported : List ℕ} (old after memory' : List ℕ) {x : Report}
      → files ≡ words_read state old → ended x (machine_of after memory') ≡ run (machine_of files memory)
      → words ≡ state_written (state_of after) state → reported ≡ words_of_report x
      → flat x.code words memory' reported ≡ flat_by run state memory report
  unfolding flat_by machine_of
  flat_ran t old after memory' f q w r =
      let both = sym e ∙ t in
      let l = and_left (eqb (length state) state_words) _ both in
      let ran = rw (f, l) at q in
      rw (w, r, l, and_right (eqb (length state) state_words) _ both) (ap flat_end ran)

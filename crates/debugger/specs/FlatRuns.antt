-- The check, the condition and the runs over flat words, as C calls them.
use Rattle.std.specs.Prelude.{ℕ, ◌/◌, ◌%◌, Bool, true, false, Option, Some, None, ◌&&◌, List, [], ◌∷◌, length, eqb}
use Rattle.bits.specs.Pick.{pick}
use Rattle.image.specs.declared.check.Answer.{Answer}
use Rattle.image.specs.Check.{check_of}
use Rattle.machine.specs.Machine.{Machine, machine}
use Rattle.machine.specs.Conditions.{condition_of, condition_code}
use Rattle.layout.specs.Layout.{state_words, state_of, words_of_state}
use Rattle.runs.specs.declared.report.Report.{Report}
use Rattle.runs.specs.Plain.{End, plain_run}
use Rattle.ordered.specs.Ordered.{ordered_run}

-- the answer to a buffer of a wrong length: no code of 01
abbrev pub bad_buffer : ℕ
bad_buffer = 255

abbrev pub answer_words : ℕ
answer_words = 3

abbrev pub report_words : ℕ
report_words = 6

-- code, line, slot
abbrev pub words_of_answer : Answer → List ℕ
words_of_answer a = a.code ∷ a.line ∷ a.slot ∷ []

-- code, line, slot, lines done, and the steps' low and high words
abbrev pub words_of_report : Report → List ℕ
words_of_report r =
    r.code ∷ r.line ∷ r.slot ∷ r.lines ∷ r.steps % 4294967296 ∷ r.steps / 4294967296 ∷ []

-- ---- the check

-- what a caller has afterwards: the answer and the report's words
pub record Checked : Type 0 where
  pub answer : ℕ
  pub report : List ℕ

abbrev pub checked : ℕ → List ℕ → Checked
checked a report = record { answer = a; report = report }

unfoldable pub flat_check : List ℕ → List ℕ → Checked
flat_check image report =
    pick (eqb (length report) answer_words) (checked (check_of image).code (words_of_answer (check_of image)))
    (checked bad_buffer report)

-- ---- the condition

-- an answer as a number: yes is 1, no is 0, a refusal is its code
abbrev pub condition_number : Option Bool → ℕ
condition_number (Some true) = 1
condition_number (Some false) = 0
condition_number None = condition_code None

-- the answer on the state that the words are
unfoldable pub flat_condition : ℕ → List ℕ → ℕ
flat_condition number state =
    pick (eqb (length state) state_words) (condition_number (condition_of number (state_of state).flags)) bad_buffer

-- ---- the runs

-- what a caller has afterwards: the answer, and the words of state, memory and report
pub record Flat : Type 0 where
  pub answer : ℕ
  pub state : List ℕ
  pub memory : List ℕ
  pub report : List ℕ

abbrev pub flat : ℕ → List ℕ → List ℕ → List ℕ → Flat
flat a state memory report = record { answer = a; state = state; memory = memory; report = report }

abbrev pub flat_end : End → Flat
flat_end e = flat e.report.code (words_of_state e.machine.state) e.machine.memory (words_of_report e.report)

-- buffers of the lengths of a state and a report
abbrev pub fit : List ℕ → List ℕ → Bool
fit state report = eqb (length state) state_words && eqb (length report) report_words

-- a run of the machine that the words are; nothing changes where a buffer has a wrong length
unfoldable pub flat_by : (Machine → End) → List ℕ → List ℕ → List ℕ → Flat
flat_by run state memory report =
    pick (fit state report) (flat_end (run (machine (state_of state) memory))) (flat bad_buffer state memory report)

abbrev pub flat_run : List ℕ → List ℕ → List ℕ → List ℕ → Flat
flat_run image = flat_by (plain_run image)

abbrev pub flat_ordered : List ℕ → List ℕ → ℕ → List ℕ → List ℕ → List ℕ → Flat
flat_ordered image orders limit = flat_by (ordered_run image orders limit)

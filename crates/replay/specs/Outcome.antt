-- The numbers of a call's outcome, in the order of the vector file.
use Rattle.std.specs.Prelude.{ℕ, ◌+◌, List, [], ◌∷◌, ◌++◌}
use Rattle.image.specs.declared.check.Answer.{Answer}
use Rattle.runs.specs.declared.report.Report.{Report}
use Rattle.runs.specs.Plain.{End}
use Rattle.layout.specs.Layout.{state_words, words_of_state}

abbrev pub answer_numbers : Answer → List ℕ
answer_numbers a = a.code ∷ a.line ∷ a.slot ∷ []

abbrev pub report_numbers : Report → List ℕ
report_numbers r = r.code ∷ r.line ∷ r.slot ∷ r.lines ∷ r.steps ∷ []

-- those of a run before its memory words
abbrev pub run_numbers : ℕ
run_numbers = 5 + state_words

-- report, state and memory
abbrev pub end_numbers : End → List ℕ
end_numbers e = report_numbers e.report ++ (words_of_state e.machine.state ++ e.machine.memory)

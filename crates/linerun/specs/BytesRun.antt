-- What linerun runs: image bytes, 64 zero words, zero state.
use Rattle.std.specs.Prelude.{ℕ, List, [], ◌∷◌, get_or, eqb}
use Rattle.bits.specs.Pick.{pick}
use Rattle.image.specs.Bytes.{bytes_refusal, words_of_bytes}
use Rattle.machine.specs.Machine.{Machine, machine, zeros, zero_state}
use Rattle.runs.specs.Plain.{End, ended, report, plain_run}
use Rattle.runs.specs.declared.report.Ran.{Ran}

abbrev pub zero_machine : Machine
zero_machine = machine zero_state (zeros 64)

-- what the bytes are refused for, else the plain run of their words
unfoldable pub bytes_run : List ℕ → End
bytes_run bs =
    pick (eqb (bytes_refusal bs) 0) (plain_run (words_of_bytes bs) zero_machine) (ended (report (bytes_refusal bs) 0 0 0 0) zero_machine)

-- the report, and the state that the run leaves
abbrev pub ran : End → Ran
ran e = record { report = e.report; state = e.machine.state }

-- what is printed of it: code, lines done, line, slot; then J0 to J3
abbrev pub numbers_of : Ran → List ℕ
numbers_of x =
    x.report.code ∷ x.report.lines ∷ x.report.line ∷ x.report.slot
    ∷ get_or x.state.j 0 0 ∷ get_or x.state.j 1 0 ∷ get_or x.state.j 2 0 ∷ get_or x.state.j 3 0 ∷ []

-- What is told of a case: the first number of its record that a call answers otherwise.
use Rattle.std.specs.Prelude.{ℕ, ◌+◌, ◌*◌, ◌≡◌, List, length, get_or, take, drop}
use Rattle.std.specs.declared.result.Result.{Result}
use Rattle.std.specs.declared.result.Result.TheVariants.{Ok, Err}
use Rattle.image.specs.Bytes.{words_of_bytes}
use Rattle.image.specs.Check.{check_of}
use Rattle.machine.specs.Machine.{Machine, machine}
use Rattle.runs.specs.Plain.{plain_run}
use Rattle.ordered.specs.Ordered.{ordered_run}
use Rattle.replay.specs.Compare.{difference_from}
use Rattle.layout.specs.Layout.{state_words, state_of}
use Rattle.replay.specs.Record.{layout_of}
use Rattle.replay.specs.Outcome.{answer_numbers, run_numbers, end_numbers}
use Rattle.replay.specs.declared.compare.Difference.{Difference}
use Rattle.replay.specs.declared.record.Parts.{Parts}
use Rattle.replay.specs.declared.record.Fault.{Fault}
use Rattle.replay.specs.declared.case.Failure.{Failure}
use Rattle.replay.specs.declared.case.Failure.TheVariants.{Broken, Check, Plain, Ordered}

-- n words, from index i on
abbrev pub section : ℕ → ℕ → List ℕ → List ℕ
section i n ws = take n (drop i ws)

-- ---- what a record gives the calls, w its words and bs its bytes

abbrev pub image_of : List ℕ → Parts → List ℕ
image_of w p = section 1 p.image w

abbrev pub machine_in : List ℕ → Parts → Machine
machine_in w p = machine (state_of (section p.state state_words w)) (section (2 + p.image) p.memory w)

-- the orders' bytes, behind the word of their length
abbrev pub orders_of : List ℕ → Parts → List ℕ
orders_of bs p = section (4 * (p.state + state_words + 1)) p.orders bs

abbrev pub limit_of : ℕ → ℕ → ℕ
limit_of low high = low + 4294967296 * high

-- ---- each call against what the record expects

abbrev pub run_words : Parts → ℕ
run_words p = run_numbers + p.memory

unfoldable pub check_compared : List ℕ → Parts → Result Unit Difference
check_compared w p = difference_from 0 (section p.check 3 w) (answer_numbers (check_of (image_of w p)))

unfoldable pub plain_compared : List ℕ → Parts → Result Unit Difference
plain_compared w p =
    difference_from 0 (section p.plain (run_words p) w) (end_numbers (plain_run (image_of w p) (machine_in w p)))

unfoldable pub ordered_compared : List ℕ → List ℕ → Parts → Result Unit Difference
ordered_compared bs w p =
    difference_from 0 (section p.ordered (run_words p) w)
    (end_numbers
    (ordered_run (image_of w p) (orders_of bs p) (limit_of (get_or w p.limit 0) (get_or w (p.limit + 1) 0)) (machine_in w p)))

-- ---- the verdict

-- a difference, else what comes behind it
abbrev pub first_of : (Difference → Failure) → Result Unit Difference → Result Unit Failure → Result Unit Failure
first_of call (Ok u) v = v
first_of call (Err d) v = Err (call d)

unfoldable pub calls_verdict : List ℕ → List ℕ → Parts → Result Unit Failure
calls_verdict bs w p =
    first_of Check (check_compared w p)
    (first_of Plain (plain_compared w p) (first_of Ordered (ordered_compared bs w p) (Ok tt)))

abbrev pub layout_verdict : List ℕ → List ℕ → Result Parts Fault → Result Unit Failure
layout_verdict bs w (Err f) = Err (Broken f)
layout_verdict bs w (Ok p) = calls_verdict bs w p

-- of a record's bytes
unfoldable pub verdict_of : List ℕ → Result Unit Failure
verdict_of bs = layout_verdict bs (words_of_bytes bs) (layout_of (words_of_bytes bs))

-- ---- room

-- the words of a record, at most
abbrev pub record_words : ℕ
record_words = 262144

-- for the bytes of the longest record, its words, and its memory
abbrev pub Room : List ℕ → List ℕ → List ℕ → Type 0
Room bytes words memory = (length bytes ≡ 4 * record_words) × (length words ≡ record_words) × (length memory ≡ record_words)

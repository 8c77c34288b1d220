-- The calls on a board, as C makes them.
use Rattle.std.specs.Prelude.{ℕ, ◌-◌, ◌%◌, Bool, ◌&&◌, List, [], ◌∷◌, ◌++◌, length, ◌==◌, nat_le, nat_lt, slice_index, option_map}
use Rattle.std.specs.declared.option.Option.{Option}
use Rattle.std.specs.declared.option.Option.TheVariants.{None, Some}
use Rattle.std.specs.declared.result.Result.{Result}
use Rattle.std.specs.declared.result.Result.TheVariants.{Ok, Err}
use Rattle.std.specs.List.{list_all}
use Rattle.bits.specs.Pick.{pick}
use Rattle.machine.specs.Machine.{zeros}
use Rattle.debugger.specs.FlatRuns.{answer_words, report_words, Flat, flat_check, flat_run, flat_ordered, flat_condition}
use Rattle.published.specs.declared.board.Board.{Board}
use Rattle.published.specs.declared.calls.Call.{Call}
use Rattle.published.specs.declared.calls.Call.TheVariants.{Condition, Check, Run, Ordered}
use Rattle.text.specs.Parts.{bytes, before, after}
use Rattle.text.specs.Tables.{entry_of}
use Rattle.text.specs.Numbers.{words_in}
use Rattle.published.specs.Board.{board, bad}

-- ---- the condition call, whose number is given

abbrev pub with_answer : Board → ℕ → Board
with_answer b answer = board b.files b.memory b.report answer b.good

unfoldable pub asked : List ℕ → Board → Board
asked given b = with_answer b (flat_condition (slice_index given 0) b.files)

-- ---- the check, whose report is the first three words of a run's

unfoldable pub checked : List ℕ → Board → Board
checked image b =
    board b.files b.memory ((flat_check image (zeros answer_words)).report ++ zeros (report_words - answer_words)) b.answer b.good

-- ---- the runs

abbrev pub left : Board → Flat → Board
left b f = board f.state f.memory f.report b.answer b.good

unfoldable pub ran : List ℕ → Board → Board
ran image b = left b (flat_run image b.files b.memory b.report)

-- the order of one line: the steps that are given, and 255 behind them
abbrev pub step_at : List ℕ → ℕ → ℕ
step_at given i = pick (nat_lt i (length given)) (slice_index given i % 256) 255

unfoldable pub order_of : List ℕ → List ℕ
order_of given =
    step_at given 0 ∷ step_at given 1 ∷ step_at given 2 ∷ step_at given 3 ∷ step_at given 4 ∷ step_at given 5 ∷ step_at given 6
    ∷ step_at given 7 ∷ []

-- with a limit above the steps of any one line
unfoldable pub ran_ordered : List ℕ → List ℕ → Board → Board
ran_ordered image order b = left b (flat_ordered image order 9 b.files b.memory b.report)

-- ---- the call that a row names

abbrev pub names : List ℕ
names = bytes "cond    check   run     order   "

abbrev pub call_at : ℕ → Call
call_at i = pick (i == 0) Condition (pick (i == 1) Check (pick (i == 2) Run Ordered))

abbrev pub call_named : List ℕ → Option Call
call_named name = option_map call_at (entry_of names name)

abbrev pub called : Call → List ℕ → List ℕ → Board → Board
called Condition given image b = asked given b
called Check given image b = checked image b
called Run given image b = ran image b
called Ordered given image b = ran_ordered image (order_of given) b

-- what a call is given, and its image: a condition has one number and no image, check and run have no numbers, an order at most
-- eight steps, which are bytes
abbrev pub takes : Call → List ℕ → List ℕ → Bool
takes Condition given image = length given == 1 && length image == 0
takes Check given image = length given == 0
takes Run given image = length given == 0
takes Ordered given image = nat_le (length given) 8 && list_all (λ step. nat_lt step 256) given

-- the call, what it is given, and its image, where all of them are understood
abbrev pub with_words : Option Call → Result (List ℕ) (List ℕ) → Result (List ℕ) (List ℕ) → Board → Board
with_words (Some call) (Ok given) (Ok image) b = pick (takes call given image) (called call given image b) (bad b)
with_words (Some call) (Ok given) (Err image) b = bad b
with_words (Some call) (Err given) image b = bad b
with_words None given image b = bad b

unfoldable pub performed : List ℕ → List ℕ → Board → Board
performed what text b = with_words (call_named (before 32 what)) (words_in (after 32 what)) (words_in text) b

-- The board: all that a row presets or sees, each word of it a place with a number.
use Rattle.std.specs.Prelude.{ℕ, ◌+◌, ◌-◌, ◌/◌, ◌%◌, Bool, true, false, not, List, ◌==◌, nat_lt, slice_index, slice_set}
use Rattle.bits.specs.Pick.{pick}
use Rattle.bits.specs.Flags.{bit, flag, flag_word}
use Rattle.slots.specs.Places.{Flags, file_number}
use Rattle.machine.specs.Machine.{zeros}
use Rattle.layout.specs.Layout.{state_words, start_at}
use Rattle.debugger.specs.FlatRuns.{report_words}
use Rattle.published.specs.declared.board.Board.{Board}

-- ---- places: the state's words, the memory, the report, the condition call's answer, and each flag

abbrev pub memory_words : ℕ
memory_words = 128

abbrev pub memory_at : ℕ
memory_at = state_words

abbrev pub report_at : ℕ
report_at = memory_at + memory_words

abbrev pub answer_at : ℕ
answer_at = report_at + report_words

abbrev pub flag_at : ℕ
flag_at = answer_at + 1

abbrev pub places : ℕ
places = flag_at + 32

-- a flag's group among the state's words, and its number in the group
abbrev pub group_of : ℕ → ℕ
group_of place = start_at (file_number Flags) + (place - flag_at) / 4

abbrev pub number_of : ℕ → ℕ
number_of place = (place - flag_at) % 4

-- ---- boards

abbrev pub board : List ℕ → List ℕ → List ℕ → ℕ → Bool → Board
board files memory report answer good =
    record { files = files; memory = memory; report = report; answer = answer; good = good }

abbrev pub zero_board : Board
zero_board = board (zeros state_words) (zeros memory_words) (zeros report_words) 0 true

abbrev pub with_files : Board → List ℕ → Board
with_files b files = board files b.memory b.report b.answer b.good

abbrev pub with_memory : Board → List ℕ → Board
with_memory b memory = board b.files memory b.report b.answer b.good

-- something was not understood
abbrev pub bad : Board → Board
bad b = board b.files b.memory b.report b.answer false

-- ---- the word at a place

unfoldable pub word_at : Board → ℕ → ℕ
word_at b place =
    pick (nat_lt place memory_at) (slice_index b.files place)
    (pick (nat_lt place report_at) (slice_index b.memory (place - memory_at))
    (pick (nat_lt place answer_at) (slice_index b.report (place - report_at))
    (pick (nat_lt place flag_at) b.answer
    (pick (nat_lt place places) (bit (flag (number_of place) (slice_index b.files (group_of place)))) 0))))

-- ---- a word stored at a place

-- flag k of a group in which flag i is set to a value
abbrev pub chosen : ℕ → Bool → ℕ → ℕ → Bool
chosen i on k group = pick (i == k) on (flag k group)

unfoldable pub with_flag : ℕ → Bool → ℕ → ℕ
with_flag i on group = flag_word (chosen i on 0 group) (chosen i on 1 group) (chosen i on 2 group) (chosen i on 3 group)

unfoldable pub put_word : Board → ℕ → ℕ → Board
put_word b place value =
    pick (nat_lt place memory_at) (with_files b (slice_set b.files place value))
    (pick (nat_lt place report_at) (with_memory b (slice_set b.memory (place - memory_at) value)) (bad b))

-- a flag is a bit of its group's word; the report and the answer cannot be stored
unfoldable pub put : Board → ℕ → ℕ → Board
put b place value =
    pick (nat_lt place flag_at) (put_word b place value)
    (pick (nat_lt place places)
    (put_word b (group_of place) (with_flag (number_of place) (not (value == 0)) (slice_index b.files (group_of place))))
    (bad b))

-- A row of the table: id | place | published | call | image | presets | seen | verdict.
use Rattle.std.specs.Prelude.{ℕ, Bool, true, false, ◌&&◌, ◌||◌, List, length, ◌==◌, nat_lt}
use Rattle.std.specs.declared.option.Option.{Option}
use Rattle.std.specs.declared.option.Option.TheVariants.{None, Some}
use Rattle.std.specs.List.{fold, list_all}
use Rattle.bits.specs.Pick.{pick}
use Rattle.published.specs.declared.board.Board.{Board}
use Rattle.published.specs.declared.row.Sight.{Sight}
use Rattle.published.specs.declared.row.Sight.TheVariants.{Nothing, Same, Other, Unread}
use Rattle.published.specs.declared.tally.Outcome.{Outcome}
use Rattle.published.specs.declared.tally.Outcome.TheVariants.{Printed, Overruled, Differs}
use Rattle.text.specs.Parts.{bytes, before, after, part, split, byte_at}
use Rattle.text.specs.Numerals.{number}
use Rattle.text.specs.Tables.{entry_of}
use Rattle.published.specs.Names.{place}
use Rattle.published.specs.Board.{zero_board, bad, word_at, put}
use Rattle.published.specs.Calls.{performed}

-- ---- fields

-- empty, or behind #
abbrev pub is_heading : List ℕ → Bool
is_heading row = length row == 0 || byte_at row 0 == 35

-- behind a bar and a space
abbrev pub field : ℕ → List ℕ → List ℕ
field k row = after 32 (part 124 k row)

-- ---- name=value

abbrev pub name_of : List ℕ → List ℕ
name_of token = before 61 token

abbrev pub value_of : List ℕ → Option ℕ
value_of token = number (after 61 token)

-- ---- presets

abbrev pub preset_to : Board → Option ℕ → Option ℕ → Board
preset_to b (Some value) (Some at) = put b at value
preset_to b (Some value) None = bad b
preset_to b None at = bad b

unfoldable pub preset : Board → List ℕ → Board
preset b token = pick (length token == 0) b (preset_to b (value_of token) (place (name_of token)))

unfoldable pub presets : List ℕ → Board
presets text = fold preset zero_board (split 32 text)

-- the board that a row's presets and call leave
unfoldable pub board_of : List ℕ → Board
board_of row = performed (field 3 row) (field 4 row) (presets (field 5 row))

-- ---- what is seen

abbrev pub compared : ℕ → ℕ → Sight
compared found expected = pick (found == expected) (Same found) (Other found expected)

abbrev pub looked_up : Board → Option ℕ → Option ℕ → Sight
looked_up b (Some expected) (Some at) = compared (word_at b at) expected
looked_up b (Some expected) None = Unread
looked_up b None at = Unread

unfoldable pub sight_of : Board → List ℕ → Sight
sight_of b token = pick (length token == 0) Nothing (looked_up b (value_of token) (place (name_of token)))

abbrev pub is_same : Sight → Bool
is_same Nothing = true
is_same (Same found) = true
is_same (Other found expected) = false
is_same Unread = false

-- it begins with no space
abbrev pub expects : List ℕ → Bool
expects text = nat_lt 32 (byte_at text 0)

-- every name with its value, and at least one
unfoldable pub all_seen : Board → List ℕ → Bool
all_seen b text = expects text && list_all (λ token. is_same (sight_of b token)) (split 32 text)

-- ---- the outcome

-- the first word of a verdict: as printed, or overruled by 01
abbrev pub verdicts : List ℕ
verdicts = bytes "same    analoguemoved   misprintchanged "

abbrev pub first_word : List ℕ → List ℕ
first_word verdict = before 58 (before 32 verdict)

abbrev pub claim_at : Option ℕ → Outcome
claim_at (Some i) = pick (nat_lt i 3) Printed Overruled
claim_at None = Differs

unfoldable pub claim : List ℕ → Outcome
claim verdict = claim_at (entry_of verdicts (first_word verdict))

abbrev pub is_claim : Outcome → Bool
is_claim Printed = true
is_claim Overruled = true
is_claim Differs = false

unfoldable pub outcome : List ℕ → Board → Outcome
outcome row b = pick (b.good && all_seen b (field 6 row)) (claim (field 7 row)) Differs

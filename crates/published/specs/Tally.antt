-- How the rows of a table came out.
use Rattle.std.specs.Prelude.{ℕ, ◌+◌, ◌%◌, List}
use Rattle.std.specs.List.{fold}
use Rattle.bits.specs.Pick.{pick}
use Rattle.published.specs.declared.tally.Outcome.{Outcome}
use Rattle.published.specs.declared.tally.Outcome.TheVariants.{Printed, Overruled, Differs}
use Rattle.published.specs.declared.tally.Tally.{Tally}
use Rattle.text.specs.Parts.{split}
use Rattle.published.specs.Row.{is_heading, board_of, outcome}

abbrev pub tally : ℕ → ℕ → ℕ → Tally
tally printed overruled differ = record { printed = printed; overruled = overruled; differ = differ }

-- one more, in 64 bits
abbrev pub more : ℕ → ℕ
more n = (n + 1) % 18446744073709551616

abbrev pub counted : Tally → Outcome → Tally
counted t Printed = tally (more t.printed) t.overruled t.differ
counted t Overruled = tally t.printed (more t.overruled) t.differ
counted t Differs = tally t.printed t.overruled (more t.differ)

-- a row more
unfoldable pub taken : Tally → List ℕ → Tally
taken t row = pick (is_heading row) t (counted t (outcome row (board_of row)))

-- of a table's lines
unfoldable pub tally_of : List ℕ → Tally
tally_of table = fold taken (tally 0 0 0) (split 10 table)

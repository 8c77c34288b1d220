-- Serves the code only; a reader of 01 can skip it.
-- Memory words side by side, as the code compares them. proofs/Ranges.antt shows that two ranges overlap exactly where their
-- lists of places meet.
use Rattle.std.specs.Prelude.{ℕ, ◌+◌, Bool, ◌&&◌, ltb}
use Rattle.sets.specs.declared.range.Range.{Range}

-- n words from address a on
abbrev pub range : ℕ → ℕ → Range
range a n = record { low = a; high = a + n }

abbrev pub no_words : Range
no_words = range 0 0

-- two ranges, neither of them empty, with a word in common
unfoldable pub overlap : Range → Range → Bool
overlap p q = ltb p.low p.high && ltb q.low q.high && ltb p.low q.high && ltb q.low p.high

-- Tables of words: entries of eight bytes, filled up with spaces.
use Rattle.std.specs.Prelude.{ℕ, zero, suc, ◌+◌, ◌/◌, Bool, ◌&&◌, List, length, take, drop, ◌==◌}
use Rattle.std.specs.declared.option.Option.{Option}
use Rattle.std.specs.declared.option.Option.TheVariants.{None, Some}
use Rattle.std.specs.List.{starts_with, list_all}
use Rattle.bits.specs.Pick.{pick}

abbrev pub named : List ℕ → List ℕ → Bool
named entry word = starts_with (λ a b. a == b) entry word && list_all (λ c. c == 32) (drop (length word) entry)

-- the number of the first of n entries that is the word, counted from i on
unfoldable pub entry_from : ℕ → ℕ → List ℕ → List ℕ → Option ℕ
entry_from i zero table word = None
entry_from i (suc n) table word = pick (named (take 8 table) word) (Some i) (entry_from (i + 1) n (drop 8 table) word)

abbrev pub entry_of : List ℕ → List ℕ → Option ℕ
entry_of table word = entry_from 0 (length table / 8) table word

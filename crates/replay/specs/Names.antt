-- The names of a call's numbers, by their places.
use Rattle.std.specs.Prelude.{ℕ, suc, ◌-◌, ◌/◌, List, [], ◌∷◌, ◌++◌, ltb}
use Rattle.bits.specs.Pick.{pick}
use Rattle.slots.specs.Places.{R, TR, THR, J, K, Base, Length, Flags, Dab, file_number}
use Rattle.layout.specs.Layout.{end_row, size_at}
use Rattle.replay.specs.declared.names.Name.{Name}

-- a file of which one half is X's or J's, and the other Y's or K's
abbrev pub halves : ℕ → List ℕ
halves n = n / 2 ∷ n / 2 ∷ []

-- the rows' places: the report's five, then the state's by the layout
abbrev pub places : List ℕ
places =
    (5 ∷ []) ++ halves (size_at (file_number R)) ++ halves (size_at (file_number TR)) ++ halves (size_at (file_number THR))
    ++ (size_at (file_number J) ∷ size_at (file_number K) ∷ []) ++ halves (size_at (file_number Base))
    ++ halves (size_at (file_number Length)) ++ (size_at (file_number Flags) ∷ []) ++ halves (size_at end_row)
    ++ halves (size_at (file_number Dab))

-- the row of the n-th place of these rows, and the place in it; behind them are memory words
unfoldable pub name_from : ℕ → List ℕ → ℕ → Name
name_from row [] n = record { row = row; place = n }
name_from row (k ∷ ks) n = pick (ltb n k) (record { row = row; place = n }) (name_from (suc row) ks (n - k))

abbrev pub name_of : ℕ → Name
name_of at = name_from 0 places at

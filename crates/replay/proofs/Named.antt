-- A place among the names: what a turn of the search learns.
use mathlib.Core.Path.{◌≡◌, refl}
use mathlib.Core.List.{List}
use Prim.Native.Nat.{ℕ, ◌+◌, ◌-◌, ◌≤◌, ◌<◌}
use native.Mathlib.Numerals.{add-one}
use lib.ListN.{length, get_or, drop, drop_of_length-le}
use lib.Seq.{drop-cons}
use borrow.Author.Tests.{lt-ltb, le-ltb}
use Rattle.layout.specs.Layout.{state_words}
use Rattle.replay.specs.Names.{name_from, name_of}
use Rattle.replay.specs.declared.names.Name.{Name}

module _ (ks : List ℕ) (row n : ℕ) where
  pub in_row : row < length ks → n < get_or ks row 0 → ◌≡◌ {A = Name} (record { row = row; place = n }) (name_from row (drop row ks) n)
  unfolding name_from
  in_row h l = rw (drop-cons ks row 0 h, lt-ltb n (get_or ks row 0) l) refl

  pub past_row : row < length ks → get_or ks row 0 ≤ n
      → name_from row (drop row ks) n ≡ name_from (row + 1) (drop (row + 1) ks) (n - get_or ks row 0)
  unfolding name_from
  past_row h l = rw (drop-cons ks row 0 h, le-ltb n (get_or ks row 0) l, add-one row) refl

  pub past_rows : (last : ℕ) → last ≡ row → length ks ≤ row
      → ◌≡◌ {A = Name} (record { row = last; place = n }) (name_from row (drop row ks) n)
  unfolding name_from
  past_rows last e h = rw (e, drop_of_length-le ks {i = row} h) refl

-- the rows end where the memory words begin
pub memory_named : name_of (5 + state_words) ≡ record { row = 18; place = 0 }
unfolding name_from
memory_named = refl

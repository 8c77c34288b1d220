-- The table of 256 entries from which TMAX adds.
use Rattle.std.specs.Prelude.{ℕ, List, [], ◌∷◌, leb}
use Rattle.bits.specs.Pick.{pick}

-- the last d of a row, and the row's entry
pub record Row : Type 0 where
  pub last : ℕ
  pub entry : ℕ

abbrev pub to : ℕ → ℕ → Row
to d x = record { last = d; entry = x }

-- 0–1:22, 2–3:21, 4–5:20, 6–7:19, 8–9:18, 10–11:17, 12–15:16, 16–19:14, 20–23:13, 24–27:12, 28–31:11, 32–35:10,
-- 36–39:8, 40–47:7, 48–55:6, 56–63:5, 64–79:3, 80–95:2, 96–127:1, 128–255:0
unfoldable pub rows : List Row
rows =
    to 1 22 ∷ to 3 21 ∷ to 5 20 ∷ to 7 19 ∷ to 9 18 ∷ to 11 17 ∷ to 15 16 ∷ to 19 14 ∷ to 23 13 ∷ to 27 12
    ∷ to 31 11 ∷ to 35 10 ∷ to 39 8 ∷ to 47 7 ∷ to 55 6 ∷ to 63 5 ∷ to 79 3 ∷ to 95 2 ∷ to 127 1 ∷ to 255 0 ∷ []

-- the entry of the first row that reaches d; above 255 add 0
unfoldable pub entry_in : List Row → ℕ → ℕ
entry_in [] d = 0
entry_in (r ∷ rs) d = pick (leb d r.last) r.entry (entry_in rs d)

unfoldable pub correction : ℕ → ℕ
correction d = entry_in rows d

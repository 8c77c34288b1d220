-- Laws of the correction table, each from one test that is computed over its rows.
use mathlib.Core.Path.{◌≡◌, refl}
use mathlib.Core.Bool.{Bool, true, false, ◌&&◌}
use mathlib.Core.List.{List, [], ◌∷◌}
use Prim.Native.Nat.{ℕ, ◌≤◌, ◌<◌, zero-le}
use native.Mathlib.Omega.{arith}
use lib.Dec.{T, leb, leb→le}
use mir.Facts.{and_yes}
use borrow.Author.Tests.{lt-leb}
use Rattle.bits.specs.Pick.{pick}
use Rattle.clu.specs.Correction.{Row, rows, entry_in, correction}

-- every row ends at or below d
abbrev within : ℕ → List Row → Bool
within d [] = true
within d (r ∷ rs) = leb r.last d && within d rs

past : (m : ℕ) (rs : List Row) → T (within m rs) → (d : ℕ) → m < d → entry_in rs d ≡ 0
unfolding entry_in
past m [] t d h = refl
past m (r ∷ rs) t d h =
    let u = and_yes (leb r.last m) (within m rs) t in
    let l : r.last ≤ m = leb→le r.last m u.0 in
    rw (lt-leb d r.last (omega arith)) (past m rs u.1 d h)

pub correction_past : (d : ℕ) → 255 < d → correction d ≡ 0
unfolding correction rows
correction_past d h = past 255 rows tt d h

-- every row has an entry of at most e
abbrev small : ℕ → List Row → Bool
small e [] = true
small e (r ∷ rs) = leb r.entry e && small e rs

pick_le : (t : Bool) (x y m : ℕ) → x ≤ m → y ≤ m → pick t x y ≤ m
pick_le true x y m p q = p
pick_le false x y m p q = q

entry_le : (e : ℕ) (rs : List Row) → T (small e rs) → (d : ℕ) → entry_in rs d ≤ e
unfolding entry_in
entry_le e [] t d = zero-le
entry_le e (r ∷ rs) t d =
    let v = and_yes (leb r.entry e) (small e rs) t in
    pick_le (leb d r.last) r.entry (entry_in rs d) e (leb→le r.entry e v.0) (entry_le e rs v.1 d)

pub correction_le : (d : ℕ) → correction d ≤ 22
unfolding correction rows
correction_le d = entry_le 22 rows tt d

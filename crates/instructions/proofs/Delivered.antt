-- The words that a load through a data alignment buffer delivers: as the code picks them from eight, and one by one.
use mathlib.Core.Path.{◌≡◌, refl}
use mathlib.Core.List.{List, [], ◌∷◌}
use Prim.Native.Nat.{ℕ, zero, suc, ◌+◌, ◌*◌, ◌%◌, ◌<◌}
use native.Mathlib.Omega.{arith}
use lib.ListN.{length, get_or, take, drop}
use lib.Seq.{drop-cons}
use Rattle.instructions.specs.Held.{quad}
use Rattle.instructions.specs.Storing.{delivered}

-- the first word of a block's buffer
pub first_of_four : (b : ℕ) → 4 * b + 0 ≡ 4 * b
first_of_four b = omega arith

module _ (a b c d e f g h : ℕ) where
  abbrev eight : List ℕ
  eight = a ∷ b ∷ c ∷ d ∷ e ∷ f ∷ g ∷ h ∷ []

  abbrev four : ℕ → List ℕ
  four p = delivered p (a ∷ b ∷ c ∷ d ∷ []) (e ∷ f ∷ g ∷ h ∷ [])

  read_at : (p : ℕ) → p < 4
      → get_or eight p 0 ∷ get_or eight (p + 1) 0 ∷ get_or eight (p + 2) 0 ∷ get_or eight (p + 3) 0 ∷ [] ≡ four p
  read_at zero l = refl
  read_at (suc zero) l = refl
  read_at (suc (suc zero)) l = refl
  read_at (suc (suc (suc zero))) l = refl
  read_at (suc (suc (suc (suc p)))) l = absurd (omega arith)

  -- the position of an index in its quad
  pub delivered_read : (i : ℕ)
      → get_or eight (i % 4) 0 ∷ get_or eight (i % 4 + 1) 0 ∷ get_or eight (i % 4 + 2) 0 ∷ get_or eight (i % 4 + 3) 0 ∷ [] ≡ four (i % 4)
  delivered_read i = read_at (i % 4) (omega arith)

-- the words that are moved, as a part of those held
pub moved_quad : (v : List ℕ) → length v ≡ 16 → take 4 (drop 4 v) ≡ quad v
moved_quad v l = rw (drop-cons v 4 0 (omega arith), drop-cons v 5 0 (omega arith), drop-cons v 6 0 (omega arith), drop-cons v 7 0 (omega arith))

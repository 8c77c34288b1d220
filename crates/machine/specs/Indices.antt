-- Serves the code only; a reader of 01 can skip it.
-- An index by its distance from another, as `places` counts.
use Rattle.std.specs.Prelude.{ℕ, zero, suc}

-- the index k after i
abbrev pub past : ℕ → ℕ → ℕ
past i zero = i
past i (suc k) = past (suc i) k

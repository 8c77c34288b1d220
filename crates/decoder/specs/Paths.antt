-- Note 3: paths through the trellis. A path of n stages is n + 1 states, p 0 to p n, the starting state first.
use Rattle.std.specs.Prelude.{ℕ, zero, suc, ◌+◌, ◌/◌, Bool, ◌&&◌, ◌||◌, List, ltb, eqb, ℤ, pos, ◌+ℤ◌, ◌-ℤ◌}
use Rattle.bits.specs.Pick.{pick}
use Rattle.decoder.specs.Trellis.{branch}

-- State s comes from floor(s/2) or from floor(s/2)+4
abbrev pub comes_from : ℕ → ℕ → Bool
comes_from s old = eqb old (s / 2) || eqb old (s / 2 + 4)

-- states are numbered 0 to 7, and each but the first comes from the one before it
unfoldable pub is_path : (ℕ → ℕ) → ℕ → Bool
is_path p zero = ltb (p 0) 8
is_path p (suc t) = is_path p t && (ltb (p (suc t)) 8 && comes_from (p (suc t)) (p t))

-- the summed metric: a stage from floor(s/2) subtracts g[s], one from floor(s/2)+4 adds it
unfoldable pub summed : List ℤ → (ℕ → ℕ) → ℕ → ℤ
summed g p zero = pos 0
summed g p (suc t) =
    pick (eqb (p t) (p (suc t) / 2))
    (summed g p t -ℤ branch g t (p (suc t)))
    (summed g p t +ℤ branch g t (p (suc t)))

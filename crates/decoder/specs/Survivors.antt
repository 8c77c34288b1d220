-- Serves the code only; a reader of Note 3 can skip it.
-- Which of the two old states a new state's metric comes from. No promise rests on this choice between equals.
use Rattle.std.specs.Prelude.{◌≡◌, ℕ, suc, ◌+◌, ◌*◌, ◌/◌, ◌^◌, ◌≤◌, ◌<◌, Bool, List, ℤ, pos, nat_abs, ◌+ℤ◌, ◌-ℤ◌, get_or}
use Rattle.std.specs.Int.Signed.{lt_z}
use Rattle.bits.specs.Flags.{flag}
use Rattle.bits.specs.Pick.{pick}
use Rattle.decoder.specs.Trellis.{branch, metric_after}

-- metrics in an array, state 0 first
abbrev pub at : List ℤ → ℕ → ℤ
at metrics s = get_or metrics s (pos 0)

-- metrics after t stages: at most 32,768 a stage in size
abbrev pub Sized : ℕ → List ℤ → Type 0
Sized t metrics = (s : ℕ) → s < 8 → nat_abs (at metrics s) ≤ 2 ^ 15 * t

-- whether it is floor(s/2)+4: only where that gives more than floor(s/2)
unfoldable pub from_upper : (ℕ → ℤ) → (ℕ → ℤ) → ℕ → Bool
from_upper old g s = lt_z (old (s / 2) -ℤ g s) (old (s / 2 + 4) +ℤ g s)

-- the old state that a decision names
abbrev pub chosen : Bool → ℕ → ℕ
chosen upper s = pick upper (s / 2 + 4) (s / 2)

-- the old state of s at stage t
abbrev pub survivor : List ℤ → ℕ → ℕ → ℕ
survivor g t s = chosen (from_upper (metric_after g t) (branch g t) s) s

-- the decisions of stage t in byte t, state 0 in its low bit
abbrev pub Decided : ℕ → List ℤ → List ℕ → Type 0
Decided stages g decisions =
    (t s : ℕ) → t < stages → s < 8 → flag s (get_or decisions t 0) ≡ from_upper (metric_after g t) (branch g t) s

-- the path that the decisions give, from its last state back
pub record Traced (stages last : ℕ) (decisions path : List ℕ) : Type 0 where
  pub end : get_or path stages 0 ≡ last
  pub back : (t : ℕ) → t < stages → get_or path t 0 ≡ chosen (flag (get_or path (suc t) 0) (get_or decisions t 0)) (get_or path (suc t) 0)

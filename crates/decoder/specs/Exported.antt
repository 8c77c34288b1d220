-- The decoder as C calls it: the metric goes to a lent buffer of one entry.
use Rattle.std.specs.Prelude.{◌≡◌, ◌≢◌, ℕ, List, ℤ, pos, length, get_or}
use Rattle.decoder.specs.BestPath.{Answered}

-- the answer to a buffer of a wrong length: no code of 01 or 02
abbrev pub bad_buffer : ℕ
bad_buffer = 255

-- C has the code as the result, and the metric in its buffer. Where the buffer has another length than 1, nothing is touched
pub record Exported (stages : ℕ) (g : List ℤ) (out : List ℕ) (metric : List ℤ) (code : ℕ) (left : List ℕ) (stored : List ℤ) :
    Type 0 where
  pub answered : length metric ≡ 1 → (length stored ≡ 1) × Answered stages g out code (get_or stored 0 (pos 0)) left
  pub untouched : length metric ≢ 1 → (code ≡ bad_buffer) × (left ≡ out) × (stored ≡ metric)

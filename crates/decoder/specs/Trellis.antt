-- Note 3: the 8-state trellis of document 000. A state's number is below 8; stages are counted from 0.
use Rattle.std.specs.Prelude.{ℕ, zero, suc, ◌+◌, ◌*◌, ◌/◌, List, ℤ, pos, ◌+ℤ◌, ◌-ℤ◌, get_or}
use Rattle.clu.specs.Tmax.{max_z}

-- g[s] of stage t: the branch values stand stage by stage, eight a stage
abbrev pub branch : List ℤ → ℕ → ℕ → ℤ
branch g t s = get_or g (8 * t + s) (pos 0)

-- New metric of state s is the larger of old[floor(s/2)] − g[s] and old[floor(s/2)+4] + g[s]
unfoldable pub new_metric : (ℕ → ℤ) → (ℕ → ℤ) → ℕ → ℤ
new_metric old g s = max_z (old (s / 2) -ℤ g s) (old (s / 2 + 4) +ℤ g s)

-- the metric of each state after a number of stages: all eight states start at metric 0
unfoldable pub metric_after : List ℤ → ℕ → ℕ → ℤ
metric_after g zero s = pos 0
metric_after g (suc t) s = new_metric (metric_after g t) (branch g t) s

-- the largest metric of states 0 to k; of all eight states where k is 7
unfoldable pub largest_up_to : ℕ → (ℕ → ℤ) → ℤ
largest_up_to zero m = m 0
largest_up_to (suc k) m = max_z (largest_up_to k m) (m (suc k))

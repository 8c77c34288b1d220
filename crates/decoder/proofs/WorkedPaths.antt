-- Worked examples of the decoder, by computation.
use mathlib.Core.Path.{◌≡◌, refl}
use mathlib.Core.List.{List, [], ◌∷◌}
use Prim.Native.Nat.{ℕ, suc, ◌<◌}
use lib.IntN.{ℤ, pos, neg_ℤ, ◌+ℤ◌, ◌-ℤ◌}
use lib.ListN.{replicate}
use borrow.Author.Tests.{lt-ltb}
use Rattle.clu.specs.Tmax.{max_z}
use Rattle.decoder.specs.Trellis.{branch, new_metric, metric_after, largest_up_to}
use Rattle.decoder.specs.Paths.{is_path, summed}
use Rattle.decoder.specs.BestPath.{code_of, entries, Best, Answered}
use Rattle.decoder.proofs.Recurrence.{best_by, metric_is_recurrence}

abbrev minus : ℕ → ℤ
minus n = neg_ℤ (pos n)

-- ---- the trellis of document 000: Metrics("100", n) = max(Metrics("010", n-1) − γ(n), Metrics("110", n-1) + γ(n))

pub state_100 : (g : List ℤ) (t : ℕ) →
    metric_after g (suc t) 4 ≡ max_z (metric_after g t 2 -ℤ branch g t 4) (metric_after g t 6 +ℤ branch g t 4)
unfolding metric_after new_metric
state_100 g t = refl

-- three stages, whose best path of 64 goes 3, 7, 6, 4: the last of them from "110" to "100"
abbrev pub three : List ℤ
three =
    pos 3 ∷ minus 1 ∷ pos 4 ∷ minus 1 ∷ pos 5 ∷ minus 9 ∷ pos 2 ∷ minus 6
    ∷ pos 5 ∷ pos 3 ∷ minus 5 ∷ pos 8 ∷ minus 9 ∷ pos 7 ∷ pos 9 ∷ minus 3
    ∷ pos 2 ∷ pos 3 ∷ minus 8 ∷ pos 4 ∷ pos 9 ∷ pos 2 ∷ minus 6 ∷ pos 4 ∷ []

-- the metrics of the eight states after each stage
abbrev row : (ℕ → ℤ) → List ℤ
row m = m 0 ∷ m 1 ∷ m 2 ∷ m 3 ∷ m 4 ∷ m 5 ∷ m 6 ∷ m 7 ∷ []

pub three_metrics :
    (row (metric_after three 1) ≡ pos 3 ∷ pos 1 ∷ pos 4 ∷ pos 1 ∷ pos 5 ∷ pos 9 ∷ pos 2 ∷ pos 6 ∷ [])
    × (row (metric_after three 2) ≡ pos 10 ∷ pos 8 ∷ pos 6 ∷ pos 17 ∷ pos 13 ∷ pos 9 ∷ pos 15 ∷ pos 4 ∷ [])
    × (row (metric_after three 3) ≡ pos 15 ∷ pos 16 ∷ pos 16 ∷ pos 13 ∷ pos 24 ∷ pos 17 ∷ pos 23 ∷ pos 13 ∷ [])
unfolding metric_after new_metric max_z
three_metrics = (refl, refl, refl)

pub three_best : Best 3 three (entries (3 ∷ 7 ∷ 6 ∷ 4 ∷ [])) (pos 24)
unfolding is_path summed largest_up_to metric_after new_metric max_z
three_best = best_by three 3 (entries (3 ∷ 7 ∷ 6 ∷ 4 ∷ [])) (pos 24) refl refl refl

pub three_answer : (out : List ℕ) (code : ℕ) (metric : ℤ) (left : List ℕ) → Answered 3 three out code metric left → code ≡ 0 →
    metric ≡ pos 24
unfolding largest_up_to metric_after new_metric max_z
three_answer out code metric left a e = metric_is_recurrence 3 three out code metric left a e

-- ---- equal metrics: several paths are best, and the promise leaves open which

abbrev zeros : List ℤ
zeros = replicate 8 (pos 0)

-- both predecessors of state 0
pub equal_predecessors : Best 1 zeros (entries (0 ∷ 0 ∷ [])) (pos 0) × Best 1 zeros (entries (4 ∷ 0 ∷ [])) (pos 0)
unfolding is_path summed largest_up_to metric_after new_metric max_z
equal_predecessors = (
  best_by zeros 1 (entries (0 ∷ 0 ∷ [])) (pos 0) refl refl refl,
  best_by zeros 1 (entries (4 ∷ 0 ∷ [])) (pos 0) refl refl refl,
)

-- two last states
abbrev twice : List ℤ
twice = pos 5 ∷ pos 5 ∷ replicate 6 (pos 0)

pub equal_states : Best 1 twice (entries (4 ∷ 0 ∷ [])) (pos 5) × Best 1 twice (entries (4 ∷ 1 ∷ [])) (pos 5)
unfolding is_path summed largest_up_to metric_after new_metric max_z
equal_states = (
  best_by twice 1 (entries (4 ∷ 0 ∷ [])) (pos 5) refl refl refl,
  best_by twice 1 (entries (4 ∷ 1 ∷ [])) (pos 5) refl refl refl,
)

-- ---- zero stages: one state, any, and metric 0

pub no_stages : (g : List ℤ) (s : ℕ) → s < 8 → Best 0 g (entries (s ∷ [])) (pos 0)
unfolding is_path summed largest_up_to metric_after max_z
no_stages g s h = best_by g 0 (entries (s ∷ [])) (pos 0) (lt-ltb s 8 h) refl refl

pub no_stages_answer : (g : List ℤ) (out : List ℕ) (code : ℕ) (metric : ℤ) (left : List ℕ) → Answered 0 g out code metric left →
    code ≡ 0 → metric ≡ pos 0
unfolding largest_up_to metric_after max_z
no_stages_answer g out code metric left a e = metric_is_recurrence 0 g out code metric left a e

pub no_stages_codes : (code_of 0 [] (7 ∷ []) ≡ 0) × (code_of 0 [] [] ≡ 14) × (code_of 0 (pos 1 ∷ []) [] ≡ 13)
unfolding code_of
no_stages_codes = (refl, refl, refl)

-- ---- minus −32,768 is 32,768

abbrev least : List ℤ
least = replicate 8 (minus 32768)

pub least_best : Best 1 least (entries (0 ∷ 0 ∷ [])) (pos 32768)
unfolding is_path summed largest_up_to metric_after new_metric max_z
least_best = best_by least 1 (entries (0 ∷ 0 ∷ [])) (pos 32768) refl refl refl

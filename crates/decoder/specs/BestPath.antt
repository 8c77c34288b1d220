-- Note 3: what the decoder answers, and what it leaves in the lent output.
use Rattle.std.specs.Prelude.{◌≡◌, ◌≢◌, ℕ, ◌+◌, ◌*◌, true, not, ◌||◌, List, ltb, eqb, Result, Ok, Err, ℤ, pos, length, get_or, drop, ◌≤ℤ◌}
use Rattle.bits.specs.Pick.{pick}
use Rattle.decoder.specs.Paths.{is_path, summed}
use Rattle.decoder.specs.declared.best_path.Refusal.{Refusal}
use Rattle.decoder.specs.declared.best_path.Refusal.TheVariants.{BadStages, ShortPath}

-- 13 when over 1,024 stages or when g's length isn't eight a stage, tested first; 14 when the output is shorter than stages+1,
-- tested next
unfoldable pub code_of : ℕ → List ℤ → List ℕ → ℕ
code_of stages g out =
    pick (ltb 1024 stages || not (eqb (length g) (8 * stages))) 13 (pick (ltb (length out) (stages + 1)) 14 0)

-- the code and the metric of each answer: both refusals give metric 0
abbrev pub answer_code : Result ℤ Refusal → ℕ
answer_code (Ok metric) = 0
answer_code (Err BadStages) = 13
answer_code (Err ShortPath) = 14

abbrev pub answer_metric : Result ℤ Refusal → ℤ
answer_metric (Ok metric) = metric
answer_metric (Err refusal) = pos 0

-- the entries of an output as the states of a path
abbrev pub entries : List ℕ → ℕ → ℕ
entries out t = get_or out t 0

-- some path whose summed metric is at least that of every other path of as many stages, and that metric. Which one, where several
-- are best, is left open
pub record Best (stages : ℕ) (g : List ℤ) (p : ℕ → ℕ) (metric : ℤ) : Type 0 where
  pub path : is_path p stages ≡ true
  pub sum : summed g p stages ≡ metric
  pub largest : (q : ℕ → ℕ) → is_path q stages ≡ true → summed g q stages ≤ℤ metric

-- the output keeps its length, and its entries behind stages+1
pub record Kept (stages : ℕ) (out left : List ℕ) : Type 0 where
  pub size : length left ≡ length out
  pub rest : drop (stages + 1) left ≡ drop (stages + 1) out

-- On code 0 the output receives a best path; both refusals give metric 0 and leave the output untouched
pub record Answered (stages : ℕ) (g : List ℤ) (out : List ℕ) (code : ℕ) (metric : ℤ) (left : List ℕ) : Type 0 where
  pub given : code ≡ code_of stages g out
  pub decoded : code ≡ 0 → Best stages g (entries left) metric × Kept stages out left
  pub refused : code ≢ 0 → (metric ≡ pos 0) × (left ≡ out)

-- The condition call's whole table: the answers to EQ LT LE NEQ NLT NLE for each Z and N, on J and on K.
use mathlib.Core.Path.{◌≡◌, refl}
use mathlib.Core.List.{List, [], ◌∷◌}
use Prim.Native.Nat.{ℕ}
use Rattle.bits.specs.Flags.{flag}
use Rattle.machine.specs.Conditions.{condition_code, condition_value, met, holds_in, holds, condition_of}

-- the flag groups, with J's and K's as given: Z is 1, N is 2
abbrev groups : ℕ → ℕ → List ℕ
groups j k = 0 ∷ 0 ∷ 0 ∷ 0 ∷ 0 ∷ 0 ∷ j ∷ k ∷ []

-- the answers' values, 1 for yes
abbrev on_j : List ℕ → List ℕ
on_j g =
    condition_value (condition_of 0 g) ∷ condition_value (condition_of 1 g) ∷ condition_value (condition_of 2 g)
    ∷ condition_value (condition_of 3 g) ∷ condition_value (condition_of 4 g) ∷ condition_value (condition_of 5 g) ∷ []

abbrev on_k : List ℕ → List ℕ
on_k g =
    condition_value (condition_of 6 g) ∷ condition_value (condition_of 7 g) ∷ condition_value (condition_of 8 g)
    ∷ condition_value (condition_of 9 g) ∷ condition_value (condition_of 10 g) ∷ condition_value (condition_of 11 g) ∷ []

pub record WorkedConditions : Type 0 where
  -- Z = 0, N = 0
  pub neither : on_j (groups 0 3) ≡ 0 ∷ 0 ∷ 0 ∷ 1 ∷ 1 ∷ 1 ∷ []
  -- Z = 1, N = 0; V and C, which are 4 and 8, are not read
  pub zero_set : on_j (groups 13 0) ≡ 1 ∷ 0 ∷ 1 ∷ 0 ∷ 1 ∷ 0 ∷ []
  -- Z = 0, N = 1
  pub negative_set : on_j (groups 2 0) ≡ 0 ∷ 1 ∷ 1 ∷ 1 ∷ 0 ∷ 0 ∷ []
  -- Z = 1, N = 1
  pub both_set : on_j (groups 3 0) ≡ 1 ∷ 1 ∷ 1 ∷ 0 ∷ 0 ∷ 0 ∷ []
  -- the same on K
  pub neither_k : on_k (groups 3 0) ≡ 0 ∷ 0 ∷ 0 ∷ 1 ∷ 1 ∷ 1 ∷ []
  pub zero_set_k : on_k (groups 0 13) ≡ 1 ∷ 0 ∷ 1 ∷ 0 ∷ 1 ∷ 0 ∷ []
  pub negative_set_k : on_k (groups 0 2) ≡ 0 ∷ 1 ∷ 1 ∷ 1 ∷ 0 ∷ 0 ∷ []
  pub both_set_k : on_k (groups 0 3) ≡ 1 ∷ 1 ∷ 1 ∷ 0 ∷ 0 ∷ 0 ∷ []
  -- 11 is the last number; 12 and any above it are refused
  pub last : condition_code (condition_of 11 (groups 0 0)) ≡ 0
  pub above : condition_code (condition_of 12 (groups 0 0)) ≡ 12
  pub far_above : condition_code (condition_of 4294967295 (groups 0 0)) ≡ 12

pub worked_conditions : WorkedConditions
unfolding condition_of holds holds_in met flag
worked_conditions =
    record {
      neither = refl;
      zero_set = refl;
      negative_set = refl;
      both_set = refl;
      neither_k = refl;
      zero_set_k = refl;
      negative_set_k = refl;
      both_set_k = refl;
      last = refl;
      above = refl;
      far_above = refl;
    }

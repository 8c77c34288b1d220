-- What is made of the k-th of a list: as the code reads it, and past the list's end.
use mathlib.Core.Path.{◌≡◌, refl}
use mathlib.Core.List.{List, [], ◌∷◌, map}
use Prim.Native.Nat.{ℕ, zero, suc, ◌≤◌, ◌<◌}
use native.Mathlib.Omega.{arith}
use lib.ListN.{length, get_or}
use Rattle.slots.specs.Lists.{nth_of}

module _ {A C : Type 0} (of : A → C) (none : C) where
  pub nth_read : (k : ℕ) (xs : List A) (d : A) → k < length xs → nth_of of none k xs ≡ of (get_or xs k d)
  nth_read k [] d h = absurd (omega arith)
  nth_read zero (x ∷ xs) d h = refl
  nth_read (suc k) (x ∷ xs) d h = nth_read k xs d (omega arith)

  pub nth_end : (k : ℕ) (xs : List A) → length xs ≤ k → nth_of of none k xs ≡ none
  nth_end k [] h = refl
  nth_end zero (x ∷ xs) h = absurd (omega arith)
  nth_end (suc k) (x ∷ xs) h = nth_end k xs (omega arith)

pub nth_map : {A B C : Type 0} (of : B → C) (none : C) (f : A → B) (k : ℕ) (xs : List A)
    → nth_of of none k (map f xs) ≡ nth_of (λ x. of (f x)) none k xs
nth_map of none f k [] = refl
nth_map of none f zero (x ∷ xs) = refl
nth_map of none f (suc k) (x ∷ xs) = nth_map of none f k xs

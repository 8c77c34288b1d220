-- Tests over lists.
use Rattle.std.specs.Prelude.{ℕ, zero, suc, ◌+◌, List, [], ◌∷◌, Bool, true, false, ◌&&◌, ◌||◌}
use Rattle.bits.specs.Pick.{pick}

-- the test holds of one of the list
abbrev pub some : {A : Type 0} → (A → Bool) → List A → Bool
some f [] = false
some f (x ∷ xs) = f x || some f xs

-- the test holds of each of the list
abbrev pub each : {A : Type 0} → (A → Bool) → List A → Bool
each f [] = true
each f (x ∷ xs) = f x && each f xs

-- the test holds of every number below n
abbrev pub below : ℕ → (ℕ → Bool) → Bool
below zero f = true
below (suc n) f = below n f && f n

-- the sum of a number for each of the list
abbrev pub total : {A : Type 0} → (A → ℕ) → List A → ℕ
total f [] = 0
total f (x ∷ xs) = f x + total f xs

-- how many of the list the test holds of
abbrev pub count : {A : Type 0} → (A → Bool) → List A → ℕ
count f xs = total (λ x. pick (f x) 1 0) xs

-- two of the list are the same
abbrev pub twice : {A : Type 0} → (A → A → Bool) → List A → Bool
twice same [] = false
twice same (x ∷ xs) = some (same x) xs || twice same xs

-- the first number below n that the test holds of; n where there is none
abbrev pub first : (ℕ → Bool) → ℕ → ℕ
first f zero = 0
first f (suc n) = pick (f 0) 0 (suc (first (λ s. f (suc s)) n))

-- every one of the list has the property
abbrev pub All : {A : Type 0} → (A → Type 0) → List A → Type 0
All P [] = Unit {0}
All P (x ∷ xs) = P x × All P xs

-- every two of the list, the earlier and the later, stand in the relation
abbrev pub Pairwise : {A : Type 0} → (A → A → Type 0) → List A → Type 0
Pairwise P [] = Unit {0}
Pairwise P (x ∷ xs) = All (P x) xs × Pairwise P xs

-- what is made of the k-th of a list; none where there is no k-th
abbrev pub nth_of : {A C : Type 0} → (A → C) → C → ℕ → List A → C
nth_of of none k [] = none
nth_of of none zero (x ∷ xs) = of x
nth_of of none (suc k) (x ∷ xs) = nth_of of none k xs

-- A test of every number below n.
use mathlib.Core.Path.{◌≡◌, refl, sym, ap₂}
use mathlib.Core.Bool.{Bool, true, false, ◌&&◌, and-false}
use Prim.Native.Nat.{ℕ, zero, suc, ◌+◌, ◌≤◌, ◌<◌}
use lib.ListN.{length, take, get_or}
use native.Mathlib.Numerals.{add-one}
use native.Mathlib.Omega.{arith}
use lib.Dec.{eqb}
use borrow.Author.Tests.{eqb-true, eqb-false}
use mathlib.Core.List.{List}
use Rattle.std.specs.List.{list_all}
use Rattle.std.proofs.lemmas.List.Folds.{list_all_more}
use Rattle.slots.specs.Lists.{below}
use Rattle.slots.proofs.Tests.{and_left, and_right, both}

pub below_false : (n : ℕ) (f : ℕ → Bool) (i : ℕ) → i < n → f i ≡ false → below n f ≡ false
below_false zero f i h e = absurd (omega arith)
below_false (suc n) f i h e = last (eqb i n) refl (λ k. below_false n f i k e)
  where
    last : (b : Bool) → eqb i n ≡ b → (i < n → below n f ≡ false) → (below n f && f n) ≡ false
    last true q r = rw (← eqb-true i n q, e) (and-false (below i f))
    last false q r = rw (r (omega (arith, eqb-false i n q)))

pub below_more : (n : ℕ) (f : ℕ → Bool) → below n f ≡ true → f n ≡ true → below (n + 1) f ≡ true
below_more n f h e = rw (add-one n, h, e)

pub below_all : (n : ℕ) (f : ℕ → Bool) {i : ℕ} → i ≤ n → n ≤ i → below i f ≡ true → true ≡ below n f
below_all n f {i} h k e = let q : n ≡ i = omega arith in sym (rw q e)

pub each_below : (n : ℕ) (f : ℕ → Bool) → below n f ≡ true → (i : ℕ) → i < n → f i ≡ true
each_below zero f h i k = absurd (omega arith)
each_below (suc n) f h i k = last (eqb i n) refl (each_below n f (and_left (below n f) (f n) h) i)
  where
    last : (b : Bool) → eqb i n ≡ b → (i < n → f i ≡ true) → f i ≡ true
    last true q r = rw (eqb-true i n q) (and_right (below n f) (f n) h)
    last false q r = r (omega (arith, eqb-false i n q))

pub below_each : (n : ℕ) (f : ℕ → Bool) → ((i : ℕ) → i < n → f i ≡ true) → below n f ≡ true
below_each zero f h = refl
below_each (suc n) f h = both (below_each n f (λ i k. h i (omega arith))) (h n (omega arith))

pub below_same : (n : ℕ) (f g : ℕ → Bool) → ((i : ℕ) → i < n → f i ≡ g i) → below n f ≡ below n g
below_same zero f g h = refl
below_same (suc n) f g h = ap₂ ◌&&◌ (below_same n f g (λ i k. h i (omega arith))) (h n (omega arith))

-- the first k of a list, tested one after another
pub below_list : {A : Type 0} (p : A → Bool) (xs : List A) (d : A) (k : ℕ) → k ≤ length xs
    → list_all p (take k xs) ≡ below k (λ i. p (get_or xs i d))
below_list p xs d zero h = refl
below_list p xs d (suc k) h =
    rw (← add-one k, list_all_more p xs k d (omega arith), below_list p xs d k (omega arith))

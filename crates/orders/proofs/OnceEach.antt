-- Bytes of no more than k values, in which each number below k stands, have each exactly once: no step need be counted.
use mathlib.Core.Path.{◌≡◌, refl}
use mathlib.Core.Bool.{Bool, true, false}
use mathlib.Core.List.{List, [], ◌∷◌}
use Prim.Native.Nat.{ℕ, zero, suc, ◌+◌, ◌*◌, ◌≤◌, ◌<◌}
use native.Mathlib.Omega.{arith}
use lib.ListN.{length}
use lib.Dec.{eqb, ltb}
use borrow.Author.Tests.{eqb-true, eqb-false, eq-eqb, ne_eqb, ltb-true, lt-ltb}
use Rattle.bits.specs.Pick.{pick}
use Rattle.slots.specs.Lists.{below, count}
use Rattle.slots.proofs.Tests.{iff}
use Rattle.orders.specs.Orders.{position, once}
use Rattle.orders.proofs.Below.{each_below, below_each}

-- how often b stands
abbrev often : ℕ → List ℕ → ℕ
often b bs = count (λ x. eqb x b) bs

-- ---- it stands where it is counted

stands_once : (b : ℕ) (bs : List ℕ) → position b bs < length bs → 1 ≤ often b bs
stands_once b [] h = absurd (omega arith)
stands_once b (x ∷ bs) h = go (eqb x b) h (stands_once b bs)
  where
    go : (t : Bool) → pick t 0 (suc (position b bs)) < suc (length bs) → (position b bs < length bs → 1 ≤ often b bs)
        → 1 ≤ pick t 1 0 + often b bs
    go true k r = omega arith
    go false k r = let q = r (omega arith) in omega arith

once_stands : (b : ℕ) (bs : List ℕ) → 1 ≤ often b bs → position b bs < length bs
once_stands b [] h = absurd (omega arith)
once_stands b (x ∷ bs) h = go (eqb x b) h (once_stands b bs)
  where
    go : (t : Bool) → 1 ≤ pick t 1 0 + often b bs → (1 ≤ often b bs → position b bs < length bs)
        → pick t 0 (suc (position b bs)) < suc (length bs)
    go true k r = omega arith
    go false k r = let q = r (omega arith) in omega arith

-- ---- no more are counted than there are

-- the sum over the numbers below k
abbrev sum_below : ℕ → (ℕ → ℕ) → ℕ
sum_below zero f = 0
sum_below (suc k) f = sum_below k f + f k

sum_both : (k : ℕ) (f g : ℕ → ℕ) → sum_below k (λ b. f b + g b) ≡ sum_below k f + sum_below k g
sum_both zero f g = refl
sum_both (suc k) f g = let e = sum_both k f g in omega arith

sum_none : (k : ℕ) → sum_below k (λ b. 0) ≡ 0
sum_none zero = refl
sum_none (suc k) = let e = sum_none k in omega arith

-- a byte is no more than one of the numbers
sum_past : (x k : ℕ) → k ≤ x → sum_below k (λ b. pick (eqb x b) 1 0) ≡ 0
sum_past x zero h = refl
sum_past x (suc k) h =
    let e = sum_past x k (omega arith) in
    let d : ◌≡◌ {A = ℕ} (pick (eqb x k) 1 0) 0 = rw (ne_eqb x k (λ q. omega arith)) in omega arith

sum_one : (x k : ℕ) → sum_below k (λ b. pick (eqb x b) 1 0) ≤ 1
sum_one x zero = omega arith
sum_one x (suc k) = go (eqb x k) refl (sum_one x k)
  where
    go : (t : Bool) → eqb x k ≡ t → sum_below k (λ b. pick (eqb x b) 1 0) ≤ 1
        → sum_below k (λ b. pick (eqb x b) 1 0) + pick t 1 0 ≤ 1
    go true e h = let p = eqb-true x k e in let z = sum_past x k (omega arith) in omega arith
    go false e h = omega arith

counts_fit : (k : ℕ) (bs : List ℕ) → sum_below k (λ b. often b bs) ≤ length bs
counts_fit k [] = let e = sum_none k in omega arith
counts_fit k (x ∷ bs) =
    let e = sum_both k (λ b. pick (eqb x b) 1 0) (λ b. often b bs) in
    let one = sum_one x k in
    let more = counts_fit k bs in omega arith

-- ---- each exactly once

at_least : (k : ℕ) (f : ℕ → ℕ) → ((b : ℕ) → b < k → 1 ≤ f b) → k ≤ sum_below k f
at_least zero f h = omega arith
at_least (suc k) f h =
    let more = at_least k f (λ b l. h b (omega arith)) in
    let last = h k (omega arith) in omega arith

just_one : (k : ℕ) (f : ℕ → ℕ) → ((b : ℕ) → b < k → 1 ≤ f b) → sum_below k f ≤ k → (b : ℕ) → b < k → f b ≡ 1
just_one zero f h s b l = absurd (omega arith)
just_one (suc k) f h s b l = go (eqb b k) refl (λ z. just_one k f (λ c q. h c (omega arith)) z b)
  where
    least : k ≤ sum_below k f
    least = at_least k f (λ c q. h c (omega arith))

    last : 1 ≤ f k
    last = h k (omega arith)

    go : (t : Bool) → eqb b k ≡ t → (sum_below k f ≤ k → b < k → f b ≡ 1) → f b ≡ 1
    go true e r = rw (eqb-true b k e) (omega (arith, least, last))
    go false e r = r (omega (arith, last)) (omega (arith, eqb-false b k e))

-- each step stands: each exactly once
pub stand_once : (n : ℕ) (bs : List ℕ) → length bs ≤ 2 * n
    → below (2 * n) (λ b. ltb (position b bs) (length bs)) ≡ once n bs
unfolding once
stand_once n bs h =
    iff (below (2 * n) stand) (below (2 * n) single)
    (λ e. below_each (2 * n) single (λ b l. eq-eqb (often b bs) 1 (just_one (2 * n) (λ c. often c bs) (least e) fit b l)))
    (λ e. below_each (2 * n) stand (λ b l.
    let one = eqb-true (often b bs) 1 (each_below (2 * n) single e b l) in
    lt-ltb (position b bs) (length bs) (once_stands b bs (omega arith))))
  where
    stand : ℕ → Bool
    stand b = ltb (position b bs) (length bs)

    single : ℕ → Bool
    single b = eqb (often b bs) 1

    least : below (2 * n) stand ≡ true → (b : ℕ) → b < 2 * n → 1 ≤ often b bs
    least e b l = stands_once b bs (ltb-true (position b bs) (length bs) (each_below (2 * n) stand e b l))

    fit : sum_below (2 * n) (λ b. often b bs) ≤ 2 * n
    fit = let k = counts_fit (2 * n) bs in omega arith

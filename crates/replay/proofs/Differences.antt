-- The first difference of two lists: what a turn of the comparison learns.
use mathlib.Core.Path.{◌≡◌, refl, sym, ap, ◌∙◌}
use Rattle.std.proofs.Common.{IsErrAnd}
use mathlib.Core.Bool.{Bool, true, false}
use mathlib.Core.List.{List, [], ◌∷◌, ◌++◌}
use Prim.Native.Nat.{ℕ, suc, ◌+◌, ◌≤◌, ◌<◌}
use native.Mathlib.Numerals.{add-one}
use native.Mathlib.Omega.{arith}
use lib.ListN.{length, get_or, take, drop, take-append-drop, drop_of_length-le}
use lib.Seq.{drop-cons, length-take-le}
use lib.Dec.{eqb}
use borrow.Author.Tests.{eq-eqb, ne_eqb}
use Rattle.bits.specs.Pick.{pick}
use Rattle.replay.specs.Compare.{differ, difference_from}
use Rattle.replay.specs.declared.compare.Difference.{Difference}
use Rattle.std.specs.declared.result.Result.{Result}
use Rattle.std.specs.declared.result.Result.TheVariants.{Ok, Err}

-- an error that `?` hands on
pub same_error : {T E : Type 0} (r : Result T E) (d : E) → IsErrAnd r (λ y. y ≡ d) → r ≡ Err d
same_error (Ok x) d h = absurd h
same_error (Err y) d h = ap Err h

-- the comparison from the i-th numbers on
abbrev pub on_from : ℕ → List ℕ → List ℕ → ℕ → Result Unit Difference
on_from at es fs i = difference_from (at + i) (drop i es) (drop i fs)

module _ (at : ℕ) (es fs : List ℕ) where
  pub from_start : difference_from at es fs ≡ on_from at es fs 0
  from_start = let e : at + 0 ≡ at = omega arith in rw e refl

  module _ (i : ℕ) where
    pub one_expected : i < length es → i ≡ length fs → differ (at + i) (get_or es i 0) 0 ≡ on_from at es fs i
    unfolding difference_from
    one_expected h k = rw (drop-cons es i 0 h, drop_of_length-le fs {i = i} (omega arith)) refl

    pub one_found : length es ≤ i → i < length fs → differ (at + i) 0 (get_or fs i 0) ≡ on_from at es fs i
    unfolding difference_from
    one_found h k = rw (drop-cons fs i 0 k, drop_of_length-le es {i = i} h) refl

    pub both_ended : length es ≤ i → length fs ≤ i → Ok tt ≡ on_from at es fs i
    unfolding difference_from
    both_ended h k = rw (drop_of_length-le es {i = i} h, drop_of_length-le fs {i = i} k) refl

    pub two_differ : i < length es → i < length fs → (get_or es i 0 ≡ get_or fs i 0 → ⊥)
        → differ (at + i) (get_or es i 0) (get_or fs i 0) ≡ on_from at es fs i
    unfolding difference_from
    two_differ h k n = rw (drop-cons es i 0 h, drop-cons fs i 0 k, ne_eqb (get_or es i 0) (get_or fs i 0) n) refl

    pub two_equal : i < length es → i < length fs → get_or es i 0 ≡ get_or fs i 0
        → on_from at es fs i ≡ on_from at es fs (i + 1)
    unfolding difference_from
    two_equal h k e =
        let s : at + (i + 1) ≡ suc (at + i) = omega arith in
        rw (drop-cons es i 0 h, drop-cons fs i 0 k, eq-eqb (get_or es i 0) (get_or fs i 0) e, s, add-one i) refl

-- ---- a list whose front is compared first

-- a difference, else what comes behind it
abbrev behind : Result Unit Difference → Result Unit Difference → Result Unit Difference
behind (Ok u) y = y
behind (Err d) y = Err d

joined : (at : ℕ) (xs rest ys more : List ℕ) → length xs ≡ length ys
    → difference_from at (xs ++ rest) (ys ++ more) ≡ behind (difference_from at xs ys) (difference_from (at + length xs) rest more)
unfolding difference_from
joined at [] rest [] more l = let e : at + 0 ≡ at = omega arith in rw e refl
joined at [] rest (y ∷ ys) more l = absurd (omega arith)
joined at (x ∷ xs) rest [] more l = absurd (omega arith)
joined at (x ∷ xs) rest (y ∷ ys) more l =
    let s : at + suc (length xs) ≡ suc at + length xs = omega arith in
    rw s (go (eqb x y) _ _ _ (joined (suc at) xs rest ys more (omega arith)))
  where
    go : (b : Bool) (u v w : Result Unit Difference) → u ≡ behind v w
        → pick b u (differ at x y) ≡ behind (pick b v (differ at x y)) w
    go true u v w e = e
    go false u v w e = refl

module _ (at n : ℕ) (es xs rest : List ℕ) (h : n ≤ length es) (l : length xs ≡ n) where
  apart : difference_from at es (xs ++ rest) ≡ behind (difference_from at (take n es) xs) (difference_from (at + n) (drop n es) rest)
  apart =
      let k : length (take n es) ≡ n = length-take-le n es h in
      let j = joined at (take n es) (drop n es) xs rest (omega arith) in
      rw (take-append-drop n es, k) at j

  pub front_differs : {x : Result Unit Difference} {d : Difference} → x ≡ difference_from at (take n es) xs → x ≡ Err d
      → x ≡ difference_from at es (xs ++ rest)
  front_differs e q = q ∙ sym (apart ∙ rw (sym e ∙ q) refl)

  pub front_same : {x : Result Unit Difference} → x ≡ difference_from at (take n es) xs → x ≡ Ok tt
      → difference_from (at + n) (drop n es) rest ≡ difference_from at es (xs ++ rest)
  front_same e q = sym (apart ∙ rw (sym e ∙ q) refl)

-- What the questions of a span of places are worth, and stores one after another.
use mathlib.Core.Path.{◌≡◌, refl, ap, ◌∙◌, sym}
use mathlib.Core.Bool.{Bool, true, false}
use mathlib.Core.List.{List, [], ◌∷◌, ◌++◌}
use Prim.Native.Nat.{ℕ, zero, suc, ◌+◌}
use native.Mathlib.Omega.{arith}
use lib.ListN.{get_or}
use lib.Dec.{ltb}
use borrow.Author.Tests.{lt-ltb, le-ltb}
use Rattle.bits.specs.Pick.{pick}
use Rattle.bits.proofs.Integers.{by_order}
use Rattle.slots.specs.Places.{File, place, places}
use Rattle.machine.specs.Machine.{Machine, get, put}
use Rattle.machine.specs.Fetches.{Write, puts, when}
use Rattle.machine.specs.Indices.{past}
use Rattle.machine.proofs.Fetches.{gets}

ltb_suc : (a b : ℕ) → ltb (suc a) (suc b) ≡ ltb a b
ltb_suc a b =
    by_order (ltb (suc a) (suc b) ≡ ltb a b) b a
    (λ h. rw (le-ltb a b h, le-ltb (suc a) (suc b) (omega arith)))
    (λ h. rw (lt-ltb a b h, lt-ltb (suc a) (suc b) (omega arith)))

-- word j of a span
pub span_word : (m : Machine) (f : File) (i n j : ℕ)
    → get_or (gets m (places f i n)) j 0 ≡ pick (ltb j n) (get m (place f (past i j))) 0
unfolding gets
span_word m f i zero j = rw (le-ltb j 0 (omega arith))
span_word m f i (suc n) zero = sym (rw (lt-ltb 0 (suc n) (omega arith)))
span_word m f i (suc n) (suc j) =
    span_word m f (suc i) n j ∙ ap (λ (b : Bool). pick b (get m (place f (past (suc i) j))) 0) (sym (ltb_suc j n))

pub past_sum : (i k : ℕ) → past i k ≡ i + k
past_sum i zero = sym (add-zero i)
  where
    add-zero : (x : ℕ) → x + 0 ≡ x
    add-zero x = omega arith
past_sum i (suc k) = past_sum (suc i) k ∙ moved
  where
    moved : suc i + k ≡ i + suc k
    moved = omega arith

-- one place that is read under a condition
pub when_get : (m : Machine) (c : Bool) (f : File) (i : ℕ)
    → get_or (gets m (when c (places f i 1))) 0 0 ≡ pick c (get m (place f i)) 0
unfolding gets
when_get m true f i = refl
when_get m false f i = refl

pub puts_append : (us ws : List Write) (m : Machine) → puts (us ++ ws) m ≡ puts ws (puts us m)
unfolding puts
puts_append [] ws m = refl
puts_append (u ∷ us) ws m = puts_append us ws (put m u.to u.value)

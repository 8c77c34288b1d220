-- Laws of the tests of an order: of every number below another, of how often a byte stands in a sequence, and of which
-- of two bytes comes first.
use mathlib.Core.Path.{◌≡◌, refl, ◌∙◌, sym}
use mathlib.Core.Bool.{Bool, true, false, not, ◌&&◌, ◌||◌}
use mathlib.Core.Logic.{◌≢◌}
use mathlib.Core.List.{List, ◌∷◌}
use mathlib.Core.Option.{Option}
use Prim.Native.Nat.{ℕ, zero, suc, ◌+◌, ◌*◌, ◌<◌}
use native.Mathlib.Omega.{arith}
use lib.Dec.{eqb, ltb}
use borrow.Author.Tests.{eqb-true, eqb-false, ltb-true, lt-ltb, le-ltb}
use Rattle.bits.specs.Pick.{pick}
use Rattle.slots.specs.Lists.{count, below}
use Rattle.slots.proofs.Tests.{and_left, and_right, iff}
use Rattle.machine.specs.Machine.{Machine}
use Rattle.steps.specs.Steps.{Act}
use Rattle.orders.specs.Orders.{waits, position, precedes, once, in_sequence}

-- ---- every number below n

pub below_true : (n : ℕ) (f : ℕ → Bool) → below n f ≡ true → (i : ℕ) → i < n → f i ≡ true
below_true zero f e i h = absurd (omega arith)
below_true (suc n) f e i h = go (eqb i n) refl (below_true n f (and_left (below n f) (f n) e) i)
  where
    go : (b : Bool) → eqb i n ≡ b → (i < n → f i ≡ true) → f i ≡ true
    go true q r = rw (eqb-true i n q) (and_right (below n f) (f n) e)
    go false q r = r (omega (arith, eqb-false i n q))

-- ---- which of two bytes comes first

-- the first byte of a sequence decides, where it is one of the two
pub precedes_head : (a b z : ℕ) (zs : List ℕ) → a ≢ b
    → precedes a b (z ∷ zs) ≡ (eqb z a || (not (eqb z b) && precedes a b zs))
unfolding precedes
precedes_head a b z zs n = go (eqb z a) (eqb z b) refl refl
  where
    p : ℕ
    p = position a zs

    q : ℕ
    q = position b zs

    go : (x y : Bool) → eqb z a ≡ x → eqb z b ≡ y
        → ltb (pick x 0 (suc p)) (pick y 0 (suc q)) ≡ (x || (not y && ltb p q))
    go true true e f = absurd (n (sym (eqb-true z a e) ∙ eqb-true z b f))
    go true false e f = lt-ltb 0 (suc q) (omega arith)
    go false true e f = le-ltb (suc p) 0 (omega arith)
    go false false e f =
        iff (ltb (suc p) (suc q)) (ltb p q)
        (λ h. lt-ltb p q (omega (arith, ltb-true (suc p) (suc q) h)))
        (λ h. lt-ltb (suc p) (suc q) (omega (arith, ltb-true p q h)))

-- ---- what the tests of an order say

pub once_count : (n : ℕ) (bs : List ℕ) → once n bs ≡ true → (b : ℕ) → b < 2 * n → count (λ x. eqb x b) bs ≡ 1
unfolding once
once_count n bs e b h = eqb-true (count (λ x. eqb x b) bs) 1 (below_true (2 * n) _ e b h)

pub sequence_precedes : (acts : ℕ → Option Act) (n : ℕ) (m : Machine) (bs : List ℕ) → in_sequence acts n m bs ≡ true
    → (s t : ℕ) → s < n → t < n → waits acts m s t ≡ true → precedes (2 * s) (2 * t + 1) bs ≡ true
unfolding in_sequence
sequence_precedes acts n m bs e s t hs ht w = rw w at (below_true n _ (below_true n _ e s hs) t ht)

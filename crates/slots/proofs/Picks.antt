-- A chain of `pick` in a definition against a chain of branches in code. Each law is one link: the branch gives the test its
-- value, and what is left is asked of the value picked.
use mathlib.Core.Path.{◌≡◌, refl, sym, ◌∙◌}
use mathlib.Core.Bool.{Bool, true, false}
use Prim.Native.Nat.{ℕ, ◌<◌, ◌≤◌}
use native.Mathlib.Omega.{arith}
use lib.Dec.{ltb, eqb}
use borrow.Author.Tests.{lt-ltb, le-ltb, eq-eqb, ne_eqb}
use Rattle.bits.specs.Pick.{pick}

pub is_true : {A : Type 0} {b : Bool} {z : A} (x y : A) → b ≡ true → z ≡ x → z ≡ pick b x y
is_true x y e q = rw e q

pub is_false : {A : Type 0} {b : Bool} {z : A} (x y : A) → b ≡ false → z ≡ y → z ≡ pick b x y
is_false x y e q = rw e q

-- what holds of both values holds of the picked one
pub picked : {A : Type 0} (P : A → Type 0) (b : Bool) (x y : A) → (b ≡ true → P x) → (b ≡ false → P y) → P (pick b x y)
picked P true x y p q = p refl
picked P false x y p q = q refl

-- the test is a call's answer
pub taken : {A : Type 0} {b r : Bool} {z : A} (x y : A) → r ≡ b → r ≡ true → z ≡ x → z ≡ pick b x y
taken x y e t q = is_true x y (sym e ∙ t) q

pub left : {A : Type 0} {b r : Bool} {z : A} (x y : A) → r ≡ b → r ≡ false → z ≡ y → z ≡ pick b x y
left x y e f q = is_false x y (sym e ∙ f) q

-- the test is a comparison
pub lt_taken : {A : Type 0} {z : A} (m n : ℕ) (x y : A) → m < n → z ≡ x → z ≡ pick (ltb m n) x y
lt_taken m n x y h q = is_true x y (lt-ltb m n h) q

pub lt_left : {A : Type 0} {z : A} (m n : ℕ) (x y : A) → n ≤ m → z ≡ y → z ≡ pick (ltb m n) x y
lt_left m n x y h q = is_false x y (le-ltb m n h) q

-- the number compared is a call's answer
pub below : {A : Type 0} {r e n : ℕ} {z : A} (x y : A) → r ≡ e → r < n → z ≡ x → z ≡ pick (ltb e n) x y
below {A} {r} {e} {n} x y p h q = lt_taken e n x y (omega arith) q

pub above : {A : Type 0} {r e n : ℕ} {z : A} (x y : A) → r ≡ e → n ≤ r → z ≡ y → z ≡ pick (ltb e n) x y
above {A} {r} {e} {n} x y p h q = lt_left e n x y (omega arith) q

pub eq_taken : {A : Type 0} {z : A} (m n : ℕ) (x y : A) → m ≡ n → z ≡ x → z ≡ pick (eqb m n) x y
eq_taken m n x y h q = is_true x y (eq-eqb m n h) q

pub eq_left : {A : Type 0} {z : A} (m n : ℕ) (x y : A) → (m ≡ n → ⊥) → z ≡ y → z ≡ pick (eqb m n) x y
eq_left m n x y h q = is_false x y (ne_eqb m n h) q

pub ruleset picks = (taken, left, is_true, is_false, lt_taken, lt_left, eq_taken, eq_left)

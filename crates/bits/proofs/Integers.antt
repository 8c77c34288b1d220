-- Integers as differences of two numbers, `sub_ℕ t b` for t - b: sums and differences.
use mathlib.Core.Path.{◌≡◌, refl, sym, ap, ◌∙◌}
use Prim.Native.Nat.{ℕ, zero, suc, ◌+◌, ◌-◌, ◌≤◌, ◌<◌, zero-le}
use native.Mathlib.Nat.{lt_of_not-le}
use native.Mathlib.Decide.{dec_le}
use native.Mathlib.Omega.{arith}
use lib.IntN.{pos, negsuc, sub_ℕ, ◌+ℤ◌, ◌-ℤ◌}
use borrow.Author.Tests.{lt-ltb, le-ltb}
use Rattle.std.proofs.lemmas.Int.{ints}

-- two cases by an order
pub by_order : (P : Type 0) (a b : ℕ) → (a ≤ b → P) → (b < a → P) → P
by_order P a b f g = go (dec_le a b)
  where
    go : Dec (a ≤ b) → P
    go (yes h) = f h
    go (no n) = g (lt_of_not-le n)

pub sub_ge : (t b : ℕ) → b ≤ t → sub_ℕ t b ≡ pos (t - b)
sub_ge t b h = rw (le-ltb t b h)

pub sub_lt : (t b : ℕ) → t < b → sub_ℕ t b ≡ negsuc (b - suc t)
sub_lt t b h = rw (lt-ltb t b h)

pub pos_sub : (a b : ℕ) → pos a -ℤ pos b ≡ sub_ℕ a b
pos_sub a zero = sym (sub_ge a 0 zero-le ∙ ap pos (omega arith))
pos_sub a (suc b) = refl

pub sub_eq : (a b c d : ℕ) → a + d ≡ c + b → sub_ℕ a b ≡ sub_ℕ c d
sub_eq a b c d e = omega (arith, ints, pos_sub a b, pos_sub c d)

pub pos_is : (n b : ℕ) → pos n ≡ sub_ℕ (n + b) b
pos_is n b = omega (arith, ints, pos_sub (n + b) b)

pub sub_add : (x p y q : ℕ) → sub_ℕ x p +ℤ sub_ℕ y q ≡ sub_ℕ (x + y) (p + q)
sub_add x p y q = omega (arith, ints, pos_sub x p, pos_sub y q, pos_sub (x + y) (p + q))

pub sub_sub : (x p y q : ℕ) → sub_ℕ x p -ℤ sub_ℕ y q ≡ sub_ℕ (x + q) (p + y)
sub_sub x p y q = omega (arith, ints, pos_sub x p, pos_sub y q, pos_sub (x + q) (p + y))

-- What one test, computed over all numbers below n, says of each of them; the rule of a table, so proved at all of its entries.
use mathlib.Core.Path.{◌≡◌}
use mathlib.Core.Bool.{Bool, true, ◌&&◌}
use mathlib.Core.List.{List}
use Prim.Native.Nat.{ℕ, zero, suc, ◌<◌}
use native.Mathlib.Nat.{not-suc-le-zero}
use native.Mathlib.Omega.{arith}
use lib.Dec.{T, eqb, eqb→eq}
use lib.ListN.{get_or}
use mir.Facts.{and_yes}
use Rattle.bits.proofs.Integers.{by_order}

-- two functions are alike below n
abbrev pub alike : (ℕ → ℕ) → (ℕ → ℕ) → ℕ → Bool
alike f g zero = true
alike f g (suc n) = eqb (f n) (g n) && alike f g n

pub alike_at : (f g : ℕ → ℕ) (n : ℕ) → T (alike f g n) → (i : ℕ) → i < n → f i ≡ g i
alike_at f g zero t i h = absurd (not-suc-le-zero h)
alike_at f g (suc n) t i h =
    let both : T (eqb (f n) (g n)) × T (alike f g n) = and_yes (eqb (f n) (g n)) (alike f g n) t in
    by_order (f i ≡ g i) n i
    (λ l. let e : i ≡ n = omega arith in rw e (eqb→eq (f n) (g n) both.0))
    (λ l. alike_at f g n both.1 i l)

-- a table whose first n entries have the rule f
pub entry : (f : ℕ → ℕ) (n : ℕ) (xs : List ℕ) → T (alike (λ k. get_or xs k 0) f n) → (k : ℕ) → k < n → get_or xs k 0 ≡ f k
entry f n xs = alike_at (λ k. get_or xs k 0) f n

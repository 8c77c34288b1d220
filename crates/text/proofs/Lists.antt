-- The tail of a list.
use Rattle.std.proofs.Common.{◌≡◌, ℕ, ◌-◌, List, length, take, drop, arith, length-drop, take_all}

-- the part from i to the end, as the code cuts it out
pub tail : (xs : List ℕ) (i : ℕ) → take (length xs - i) (drop i xs) ≡ drop i xs
tail xs i = take_all (length xs - i) (drop i xs) (omega (arith, length-drop i xs))

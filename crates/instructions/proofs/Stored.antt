-- Writes one after the other.
use Prim.Native.Nat.{ℕ, ◌*◌}
use mathlib.Core.Path.{◌≡◌, refl}
use mathlib.Core.Bool.{Bool, true, false}
use mathlib.Core.List.{[]}
use Rattle.bits.specs.Pick.{pick}
use Rattle.slots.specs.Places.{File, places}

-- none of the places
pub none_of : (b : Bool) (f : File) (i n : ℕ) → pick b [] (places f i n) ≡ places f i (pick b 0 n)
none_of true f i n = refl
none_of false f i n = refl

-- register 0 of a block, or of no block
pub block_or_none : (b : Bool) (x : ℕ) → 32 * pick b x 0 ≡ pick b (32 * x) 0
block_or_none true x = refl
block_or_none false x = refl

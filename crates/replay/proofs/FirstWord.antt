-- The first of the words that bytes hold, loaded by itself.
use mathlib.Core.Path.{◌≡◌, refl}
use mathlib.Core.List.{List, [], ◌∷◌, ◌++◌}
use Prim.Native.Nat.{ℕ}
use lib.ListN.{length, get_or, take, drop}
use Rattle.image.specs.Bytes.{words_of_bytes, loaded}

in_front : (ws : List ℕ) → get_or (take 1 ws ++ drop (length ws) (0 ∷ [])) 0 0 ≡ get_or ws 0 0
in_front [] = refl
in_front (w ∷ ws) = refl

pub first_loaded : (bs : List ℕ) {held : List ℕ} → held ≡ loaded bs (0 ∷ []) → get_or held 0 0 ≡ get_or (words_of_bytes bs) 0 0
unfolding loaded
first_loaded bs e = rw e (in_front (words_of_bytes bs))

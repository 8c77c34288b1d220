-- Spans of places as the code reads and stores them: word k is stored where k is below n.
use Rattle.std.proofs.Common.{◌≡◌, refl, ap, map, ℕ, zero, suc, ◌+◌, ◌≤◌, ◌<◌, List, [], ◌∷◌, length, get_or, take, arith}
use Rattle.slots.specs.Places.{File, Place, place, places}
use Rattle.machine.specs.Machine.{Machine, get, put}
use Rattle.machine.specs.Fetches.{assign, puts}

no_values : (ps : List Place) → assign ps [] ≡ []
unfolding assign
no_values [] = refl
no_values (p ∷ ps) = refl

pub none_stored : (m : Machine) (ps : List Place) → m ≡ puts (assign ps []) m
unfolding puts
none_stored m ps = rw (no_values ps)

pub one_stored : (m : Machine) (f : File) (i n k : ℕ) (vs : List ℕ) → k < n → k < length vs
    → put (puts (assign (places f i n) (take k vs)) m) (place f (i + k)) (get_or vs k 0)
    ≡ puts (assign (places f i n) (take (suc k) vs)) m
unfolding puts assign
one_stored m f i zero k vs h l = absurd (omega arith)
one_stored m f i (suc n) k [] h l = absurd (omega arith)
one_stored m f i (suc n) zero (v ∷ vs) h l =
    let here : i + 0 ≡ i = omega arith in
    rw (here, no_values (places f (suc i) n))
one_stored m f i (suc n) (suc k) (v ∷ vs) h l =
    let next : i + suc k ≡ suc i + k = omega arith in
    rw next (one_stored (put m (place f i) v) f (suc i) n k vs (omega arith) (omega arith))

pub none_past : (m : Machine) (f : File) (i n k : ℕ) (vs : List ℕ) → n ≤ k
    → puts (assign (places f i n) (take k vs)) m ≡ puts (assign (places f i n) (take (suc k) vs)) m
unfolding puts assign
none_past m f i zero k vs h = refl
none_past m f i (suc n) zero vs h = absurd (omega arith)
none_past m f i (suc n) (suc k) [] h = refl
none_past m f i (suc n) (suc k) (v ∷ vs) h = none_past (put m (place f i) v) f (suc i) n k vs (omega arith)

-- the words of a span
pub words_of_span : (m : Machine) (f : File) (i n : ℕ) → length (map (get m) (places f i n)) ≡ n
words_of_span m f i zero = refl
words_of_span m f i (suc n) = ap suc (words_of_span m f (suc i) n)

pub word_of_span : (m : Machine) (f : File) (i n k : ℕ) → k < n → get_or (map (get m) (places f i n)) k 0 ≡ get m (place f (i + k))
word_of_span m f i zero k h = absurd (omega arith)
word_of_span m f i (suc n) zero h = let here : i + 0 ≡ i = omega arith in rw here
word_of_span m f i (suc n) (suc k) h =
    let next : i + suc k ≡ suc i + k = omega arith in
    rw next (word_of_span m f (suc i) n k (omega arith))

-- Lists of places: with a place in common, and with a place twice.
use mathlib.Core.Path.{◌≡◌, refl, sym, ◌∙◌, ap, ap₂}
use mathlib.Core.Logic.{⊎_elim}
use mathlib.Core.List.{List, [], ◌∷◌, ◌++◌}
use mathlib.Core.Bool.{Bool, true, false, ◌&&◌, ◌||◌, or_assoc, and-false}
use Prim.Native.Nat.{ℕ, zero, suc, ◌+◌, ◌<◌}
use native.Mathlib.Omega.{arith}
use lib.Dec.{ltb, leb, eqb}
use borrow.Author.Tests.{ltb-true, leb-true, lt-ltb, le-ltb, le-leb, lt-leb, eq-eqb, ne_eqb}
use Rattle.std.proofs.lemmas.Bool.{or_cases}
use Rattle.bits.proofs.Integers.{by_order}
use Rattle.slots.specs.Lists.{some, twice, All}
use Rattle.slots.specs.Places.{File, Place, place, file_number, same_place, meet, places}
use Rattle.slots.proofs.Tests.{and_left, and_right, both, or_left, or_right, iff}
use Rattle.sets.specs.PlaceSets.{Fits}
use Rattle.sets.specs.Ranges.{range, overlap}

-- ---- lists put together

pub some_append : {A : Type 0} (f : A → Bool) (xs ys : List A) → some f (xs ++ ys) ≡ (some f xs || some f ys)
some_append f [] ys = refl
some_append f (x ∷ xs) ys = rw (some_append f xs ys) (sym (or_assoc (f x) (some f xs) (some f ys)))

pub meet_left : (xs ys zs : List Place) → meet (xs ++ ys) zs ≡ (meet xs zs || meet ys zs)
meet_left [] ys zs = refl
meet_left (x ∷ xs) ys zs = rw (meet_left xs ys zs) (sym (or_assoc (some (same_place x) zs) (meet xs zs) (meet ys zs)))

pub meet_none : (xs : List Place) → meet xs [] ≡ false
meet_none [] = refl
meet_none (x ∷ xs) = meet_none xs

-- (a || b) || (c || d) in another order
pub swap : (a b c d : Bool) → ((a || b) || (c || d)) ≡ ((a || c) || (b || d))
swap true b c d = refl
swap false true true d = refl
swap false true false d = refl
swap false false c d = refl

pub meet_right : (xs ys zs : List Place) → meet xs (ys ++ zs) ≡ (meet xs ys || meet xs zs)
meet_right [] ys zs = refl
meet_right (x ∷ xs) ys zs =
    ap₂ ◌||◌ (some_append (same_place x) ys zs) (meet_right xs ys zs)
    ∙ swap (some (same_place x) ys) (some (same_place x) zs) (meet xs ys) (meet xs zs)

-- a list put together has a place twice within a part, or in both
pub twice_append : (xs ys : List Place)
    → twice same_place (xs ++ ys) ≡ (twice same_place xs || meet xs ys || twice same_place ys)
twice_append [] ys = refl
twice_append (x ∷ xs) ys =
    ap₂ ◌||◌ (some_append (same_place x) xs ys) (twice_append xs ys)
    ∙ turn (some (same_place x) xs) (some (same_place x) ys) (twice same_place xs) (meet xs ys) (twice same_place ys)
  where
    turn : (a b c d e : Bool) → ((a || b) || (c || d || e)) ≡ ((a || c) || (b || d) || e)
    turn true b c d e = refl
    turn false true true d e = refl
    turn false true false d e = refl
    turn false false true d e = refl
    turn false false false d e = refl

pub all_append : (xs ys : List Place) → All Fits xs → All Fits ys → All Fits (xs ++ ys)
all_append [] ys h k = k
all_append (x ∷ xs) ys h k = (h.0, all_append xs ys h.1 k)

-- ---- places side by side

-- a place of the same file, from i on and before i + n
in_places : (f g : File) (k i n : ℕ)
    → some (same_place (place f k)) (places g i n) ≡ (eqb (file_number f) (file_number g) && (leb i k && ltb k (i + n)))
in_places f g k i zero = sym (rw (none (leb i k) refl) (and-false (eqb (file_number f) (file_number g))))
  where
    none : (b : Bool) → b ≡ leb i k → (leb i k && ltb k (i + 0)) ≡ false
    none true e = rw (← e, le-ltb k (i + 0) (let h = leb-true i k (sym e) in omega arith))
    none false e = rw (← e)
in_places f g k i (suc n) = rw (in_places f g k (suc i) n) (joined (eqb (file_number f) (file_number g)))
  where
    here : (eqb k i || (leb (suc i) k && ltb k (suc i + n))) ≡ (leb i k && ltb k (i + suc n))
    here =
        by_order ((eqb k i || (leb (suc i) k && ltb k (suc i + n))) ≡ (leb i k && ltb k (i + suc n))) (suc i) k
        (λ l. rw (ne_eqb k i (λ q. omega arith), le-leb (suc i) k l, le-leb i k (omega arith))
        (ap (λ (m : ℕ). ltb k m) (omega arith)))
        (λ l. rw (lt-leb (suc i) k l)
        (by_order ((eqb k i || false) ≡ (leb i k && ltb k (i + suc n))) i k
        (λ m. rw (eq-eqb k i (omega arith), le-leb i k m, lt-ltb k (i + suc n) (omega arith)))
        (λ m. rw (ne_eqb k i (λ q. omega arith), lt-leb i k m))))

    joined : (b : Bool)
        → ((b && eqb k i) || (b && (leb (suc i) k && ltb k (suc i + n)))) ≡ (b && (leb i k && ltb k (i + suc n)))
    joined true = here
    joined false = refl

-- two ranges of numbers, by their ends
from_overlap : (i n j m : ℕ) → overlap (range i n) (range j m) ≡ true → (0 < n) × (0 < m) × (i < j + m) × (j < i + n)
unfolding overlap
from_overlap i n j m e =
    let d = ltb-true j (i + n) (and_right (ltb i (i + n) && ltb j (j + m) && ltb i (j + m)) (ltb j (i + n)) e) in
    let e1 = and_left (ltb i (i + n) && ltb j (j + m) && ltb i (j + m)) (ltb j (i + n)) e in
    let c = ltb-true i (j + m) (and_right (ltb i (i + n) && ltb j (j + m)) (ltb i (j + m)) e1) in
    let e2 = and_left (ltb i (i + n) && ltb j (j + m)) (ltb i (j + m)) e1 in
    let b = ltb-true j (j + m) (and_right (ltb i (i + n)) (ltb j (j + m)) e2) in
    let a = ltb-true i (i + n) (and_left (ltb i (i + n)) (ltb j (j + m)) e2) in
    (omega arith, omega arith, c, d)

to_overlap : (i n j m : ℕ) → 0 < n → 0 < m → i < j + m → j < i + n → overlap (range i n) (range j m) ≡ true
unfolding overlap
to_overlap i n j m a b c d =
    both (both (both (lt-ltb i (i + n) (omega arith)) (lt-ltb j (j + m) (omega arith))) (lt-ltb i (j + m) c))
    (lt-ltb j (i + n) d)

overlap_none : (i j m : ℕ) → overlap (range i 0) (range j m) ≡ false
unfolding overlap
overlap_none i j m = rw (le-ltb i (i + 0) (omega arith))

-- the first of a range is in the other, or the rest overlaps it
one_more : (i n j m : ℕ)
    → ((leb j i && ltb i (j + m)) || overlap (range (suc i) n) (range j m)) ≡ overlap (range i (suc n)) (range j m)
one_more i n j m =
    iff ((leb j i && ltb i (j + m)) || overlap (range (suc i) n) (range j m)) (overlap (range i (suc n)) (range j m))
    (λ e.
    ⊎_elim
    (λ h.
    let a = leb-true j i (and_left (leb j i) (ltb i (j + m)) h) in
    let b = ltb-true i (j + m) (and_right (leb j i) (ltb i (j + m)) h) in
    to_overlap i (suc n) j m (omega arith) (omega arith) b (omega arith))
    (λ h.
    let q = from_overlap (suc i) n j m h in
    to_overlap i (suc n) j m (omega arith) q.1 (omega (arith, q.2)) (omega (arith, q.3)))
    (or_cases (leb j i && ltb i (j + m)) (overlap (range (suc i) n) (range j m)) e))
    (λ e.
    let q = from_overlap i (suc n) j m e in
    by_order (((leb j i && ltb i (j + m)) || overlap (range (suc i) n) (range j m)) ≡ true) j i
    (λ l. or_left (overlap (range (suc i) n) (range j m)) (both (le-leb j i l) (lt-ltb i (j + m) q.2)))
    (λ l. or_right (leb j i && ltb i (j + m))
    (to_overlap (suc i) n j m (omega (arith, q.3)) q.1 (omega (arith, q.1)) (omega (arith, q.3)))))

pub places_meet : (f g : File) (i n j m : ℕ)
    → meet (places f i n) (places g j m) ≡ (eqb (file_number f) (file_number g) && overlap (range i n) (range j m))
places_meet f g i zero j m = sym (rw (overlap_none i j m) (and-false (eqb (file_number f) (file_number g))))
places_meet f g i (suc n) j m =
    ap₂ ◌||◌ (in_places f g i j m) (places_meet f g (suc i) n j m) ∙ joined (eqb (file_number f) (file_number g))
  where
    joined : (b : Bool)
        → ((b && (leb j i && ltb i (j + m))) || (b && overlap (range (suc i) n) (range j m)))
        ≡ (b && overlap (range i (suc n)) (range j m))
    joined true = one_more i n j m
    joined false = refl

-- files that differ have no place in common
pub files_apart : (f g : File) (i n j m : ℕ) → eqb (file_number f) (file_number g) ≡ false
    → meet (places f i n) (places g j m) ≡ false
files_apart f g i n j m e = places_meet f g i n j m ∙ rw e

-- two ranges with no number in common
abbrev pub Clear : ℕ → ℕ → ℕ → ℕ → Type 0
Clear i n j m = 0 < n → 0 < m → i < j + m → j < i + n → ⊥

pub places_apart : (f g : File) (i n j m : ℕ) → Clear i n j m → meet (places f i n) (places g j m) ≡ false
places_apart f g i n j m h = places_meet f g i n j m ∙ shut (overlap (range i n) (range j m)) refl
  where
    shut : (b : Bool) → b ≡ overlap (range i n) (range j m)
        → (eqb (file_number f) (file_number g) && overlap (range i n) (range j m)) ≡ false
    shut true e = let q = from_overlap i n j m (sym e) in absurd (h q.0 q.1 q.2 q.3)
    shut false e = rw (← e) (and-false (eqb (file_number f) (file_number g)))

-- places side by side have none twice
pub twice_places : (f : File) (i n : ℕ) → twice same_place (places f i n) ≡ false
twice_places f i zero = refl
twice_places f i (suc n) = rw (later, twice_places f (suc i) n)
  where
    later : some (same_place (place f i)) (places f (suc i) n) ≡ false
    later =
        in_places f f i (suc i) n
        ∙ rw (lt-leb (suc i) i (omega arith)) (and-false (eqb (file_number f) (file_number f)))

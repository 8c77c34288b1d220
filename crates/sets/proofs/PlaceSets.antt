-- Lists of register places meet exactly where their sets do.
use mathlib.Core.Path.{◌≡◌, refl, sym, ap, ap₂, ◌∙◌}
use mathlib.Core.List.{List, [], ◌∷◌, ◌++◌}
use mathlib.Core.Bool.{Bool, true, false, ◌&&◌, ◌||◌, or-false}
use Prim.Native.Nat.{ℕ, zero, suc, ◌+◌, ◌/◌, ◌%◌, ◌^◌, ◌<◌}
use native.Mathlib.Nat.{add-suc, zero-mul}
use native.Mathlib.Omega.{arith}
use lib.Bits.{bit_and, bit_or, and_comm, and_zero_r, or_zero_r}
use lib.Dec.{eqb, ltb}
use borrow.Author.Tests.{eqb-true, eq-eqb, lt-ltb, le-ltb}
use Rattle.bits.specs.Pick.{pick}
use Rattle.bits.proofs.Digits.{or_assoc}
use Rattle.slots.specs.Lists.{some, All}
use Rattle.slots.specs.Places.{File, R, TR, J, K, THR, Base, Length, Flags, Memory, Dab, Place, file_number, same_place, meet, places}
use Rattle.slots.proofs.Tests.{and_left, and_right, both, iff}
use Rattle.sets.specs.PlaceSets.{size, start, word_of, bit_from, bit_of, Fits, nothing, in_word, single, joined, meets, set_of, run}
use Rattle.sets.specs.declared.place_set.PlaceSet.{PlaceSet}
use Rattle.sets.proofs.Words.{and_or, some_bit, some_or, two_bits, run_step}
use Rattle.sets.proofs.PlaceLists.{swap}

-- ---- sets

-- two words with a bit in common
abbrev pub hit : ℕ → ℕ → Bool
hit a b = some_bit (bit_and a b)

hit_or : (a b c : ℕ) → hit (bit_or a b) c ≡ (hit a c || hit b c)
hit_or a b c = ap some_bit (and_or a b c) ∙ some_or (bit_and a c) (bit_and b c)

by_words : (a b : PlaceSet)
    → meets a b ≡ (((hit a.r b.r || hit a.tr b.tr) || hit a.ialu b.ialu) || hit a.rest b.rest)
unfolding meets
by_words a b =
    some_or (bit_or (bit_or (bit_and a.r b.r) (bit_and a.tr b.tr)) (bit_and a.ialu b.ialu))
    (bit_and a.rest b.rest)
    ∙ ap (λ (t : Bool). t || hit a.rest b.rest)
    (some_or (bit_or (bit_and a.r b.r) (bit_and a.tr b.tr)) (bit_and a.ialu b.ialu)
    ∙ ap (λ (t : Bool). t || hit a.ialu b.ialu) (some_or (bit_and a.r b.r) (bit_and a.tr b.tr)))

pub meets_left : (a b c : PlaceSet) → meets (joined a b) c ≡ (meets a c || meets b c)
unfolding joined
meets_left a b c =
    by_words (joined a b) c
    ∙ rw (
      hit_or a.r b.r c.r,
      hit_or a.tr b.tr c.tr,
      hit_or a.ialu b.ialu c.ialu,
      hit_or a.rest b.rest c.rest,
      swap (hit a.r c.r) (hit b.r c.r) (hit a.tr c.tr) (hit b.tr c.tr),
      swap (hit a.r c.r || hit a.tr c.tr) (hit b.r c.r || hit b.tr c.tr) (hit a.ialu c.ialu)
          (hit b.ialu c.ialu),
    )
    (swap ((hit a.r c.r || hit a.tr c.tr) || hit a.ialu c.ialu)
    ((hit b.r c.r || hit b.tr c.tr) || hit b.ialu c.ialu) (hit a.rest c.rest) (hit b.rest c.rest))
    ∙ sym (ap₂ ◌||◌ (by_words a c) (by_words b c))

pub meets_comm : (a b : PlaceSet) → meets a b ≡ meets b a
unfolding meets
meets_comm a b =
    rw (
      and_comm a.r b.r,
      and_comm a.tr b.tr,
      and_comm a.ialu b.ialu,
      and_comm a.rest b.rest,
    )

pub meets_right : (a b c : PlaceSet) → meets a (joined b c) ≡ (meets a b || meets a c)
meets_right a b c = meets_comm a (joined b c) ∙ meets_left b c a ∙ ap₂ ◌||◌ (meets_comm b a) (meets_comm c a)

pub none_left : (a : PlaceSet) → meets nothing a ≡ false
unfolding meets
none_left a = refl

pub joined_assoc : (a b c : PlaceSet) → joined (joined a b) c ≡ joined a (joined b c)
unfolding joined
joined_assoc a b c =
    rw (
      or_assoc a.r b.r c.r,
      or_assoc a.tr b.tr c.tr,
      or_assoc a.ialu b.ialu c.ialu,
      or_assoc a.rest b.rest c.rest,
    )

pub joined_none : (a : PlaceSet) → joined nothing a ≡ a
unfolding joined
joined_none a = refl

pub joined_none_right : (a : PlaceSet) → joined a nothing ≡ a
unfolding joined
joined_none_right a = rw (or_zero_r a.r, or_zero_r a.tr, or_zero_r a.ialu, or_zero_r a.rest)

-- ---- the layout: every register has a bit of its own

-- the file that a number belongs to
abbrev file_at : ℕ → ℕ
file_at k =
    pick (ltb k 64) 0
    (pick (ltb k 128) 1
    (pick (ltb k 160) 3 (pick (ltb k 192) 4 (pick (ltb k 200) 2 (pick (ltb k 208) 5 (pick (ltb k 216) 6 (pick (ltb k 224) 7 9)))))))

at_start : (n i : ℕ) → i < size n → file_at (start n + i) ≡ n
at_start zero i h = rw (lt-ltb (0 + i) 64 (omega arith))
at_start (suc zero) i h = rw (le-ltb (64 + i) 64 (omega arith), lt-ltb (64 + i) 128 (omega arith))
at_start (suc (suc zero)) i h =
    rw (
      le-ltb (192 + i) 64 (omega arith),
      le-ltb (192 + i) 128 (omega arith),
      le-ltb (192 + i) 160 (omega arith),
      le-ltb (192 + i) 192 (omega arith),
      lt-ltb (192 + i) 200 (omega arith),
    )
at_start (suc (suc (suc zero))) i h =
    rw (le-ltb (128 + i) 64 (omega arith), le-ltb (128 + i) 128 (omega arith), lt-ltb (128 + i) 160 (omega arith))
at_start (suc (suc (suc (suc zero)))) i h =
    rw (
      le-ltb (160 + i) 64 (omega arith),
      le-ltb (160 + i) 128 (omega arith),
      le-ltb (160 + i) 160 (omega arith),
      lt-ltb (160 + i) 192 (omega arith),
    )
at_start (suc (suc (suc (suc (suc zero))))) i h =
    rw (
      le-ltb (200 + i) 64 (omega arith),
      le-ltb (200 + i) 128 (omega arith),
      le-ltb (200 + i) 160 (omega arith),
      le-ltb (200 + i) 192 (omega arith),
      le-ltb (200 + i) 200 (omega arith),
      lt-ltb (200 + i) 208 (omega arith),
    )
at_start (suc (suc (suc (suc (suc (suc zero)))))) i h =
    rw (
      le-ltb (208 + i) 64 (omega arith),
      le-ltb (208 + i) 128 (omega arith),
      le-ltb (208 + i) 160 (omega arith),
      le-ltb (208 + i) 192 (omega arith),
      le-ltb (208 + i) 200 (omega arith),
      le-ltb (208 + i) 208 (omega arith),
      lt-ltb (208 + i) 216 (omega arith),
    )
at_start (suc (suc (suc (suc (suc (suc (suc zero))))))) i h =
    rw (
      le-ltb (216 + i) 64 (omega arith),
      le-ltb (216 + i) 128 (omega arith),
      le-ltb (216 + i) 160 (omega arith),
      le-ltb (216 + i) 192 (omega arith),
      le-ltb (216 + i) 200 (omega arith),
      le-ltb (216 + i) 208 (omega arith),
      le-ltb (216 + i) 216 (omega arith),
      lt-ltb (216 + i) 224 (omega arith),
    )
at_start (suc (suc (suc (suc (suc (suc (suc (suc zero)))))))) i h = absurd (omega arith)
at_start (suc (suc (suc (suc (suc (suc (suc (suc (suc zero))))))))) i h =
    rw (
      le-ltb (224 + i) 64 (omega arith),
      le-ltb (224 + i) 128 (omega arith),
      le-ltb (224 + i) 160 (omega arith),
      le-ltb (224 + i) 192 (omega arith),
      le-ltb (224 + i) 200 (omega arith),
      le-ltb (224 + i) 208 (omega arith),
      le-ltb (224 + i) 216 (omega arith),
      le-ltb (224 + i) 224 (omega arith),
    )
at_start (suc (suc (suc (suc (suc (suc (suc (suc (suc (suc n)))))))))) i h = absurd (omega arith)

eqb_swap : (m n : ℕ) → eqb m n ≡ eqb n m
eqb_swap m n = iff (eqb m n) (eqb n m) (λ e. eq-eqb n m (sym (eqb-true m n e))) (λ e. eq-eqb m n (sym (eqb-true n m e)))

pub four_words : (f : File) → word_of f < 4
four_words R = omega arith
four_words TR = omega arith
four_words J = omega arith
four_words K = omega arith
four_words THR = omega arith
four_words Base = omega arith
four_words Length = omega arith
four_words Flags = omega arith
four_words Memory = omega arith
four_words Dab = omega arith

own_bit : (p q : Place) → Fits p → Fits q
    → (eqb (word_of p.file) (word_of q.file) && eqb (bit_of p) (bit_of q)) ≡ same_place p q
own_bit p q hp hq =
    iff (eqb (word_of p.file) (word_of q.file) && eqb (bit_of p) (bit_of q)) (same_place p q)
    (λ e.
    from (file_number p.file) (file_number q.file) hp hq (eqb-true (word_of p.file) (word_of q.file) (and_left _ _ e))
    (eqb-true (bit_of p) (bit_of q) (and_right (eqb (word_of p.file) (word_of q.file)) _ e)))
    (λ e.
    let k = eqb-true (file_number p.file) (file_number q.file) (and_left _ _ e) in
    let l = eqb-true p.index q.index (and_right (eqb (file_number p.file) (file_number q.file)) _ e) in
    both (eq-eqb (word_of p.file) (word_of q.file) (ap (λ (n : ℕ). start n / 64) k))
    (eq-eqb (bit_of p) (bit_of q) (ap₂ (λ (n i : ℕ). start n % 64 + i) k l)))
  where
    from : (m n : ℕ) → p.index < size m → q.index < size n → start m / 64 ≡ start n / 64
        → start m % 64 + p.index ≡ start n % 64 + q.index → (eqb m n && eqb p.index q.index) ≡ true
    from m n a b d e =
        let k : start m + p.index ≡ start n + q.index = omega arith in
        let s : m ≡ n = sym (at_start m p.index a) ∙ ap file_at k ∙ at_start n q.index b in
        let t : start m ≡ start n = ap start s in
        both (eq-eqb m n s) (eq-eqb p.index q.index (omega arith))

hit_picked : (a b : Bool) (i j : ℕ) → hit (pick a (2 ^ i) 0) (pick b (2 ^ j) 0) ≡ ((a && b) && eqb i j)
hit_picked true true i j = two_bits i j
hit_picked true false i j = ap some_bit (and_zero_r (2 ^ i))
hit_picked false b i j = refl

in_one : (u v : ℕ) (c : Bool) → u < 4
    → (((((eqb u 0 && eqb v 0) && c) || ((eqb u 1 && eqb v 1) && c)) || ((eqb u 2 && eqb v 2) && c))
    || ((eqb u 3 && eqb v 3) && c)) ≡ (eqb u v && c)
in_one zero v c h = rw (eqb_swap 0 v) (simp or-false)
in_one (suc zero) v c h = rw (eqb_swap 1 v) (simp or-false)
in_one (suc (suc zero)) v c h = rw (eqb_swap 2 v) (simp or-false)
in_one (suc (suc (suc zero))) v c h = rw (eqb_swap 3 v)
in_one (suc (suc (suc (suc u)))) v c h = absurd (omega arith)

pub meets_single : (p q : Place) → Fits p → Fits q → meets (single p) (single q) ≡ same_place p q
meets_single p q hp hq =
    by_words (single p) (single q)
    ∙ rw (
      hit_picked (eqb (word_of p.file) 0) (eqb (word_of q.file) 0) (bit_of p) (bit_of q),
      hit_picked (eqb (word_of p.file) 1) (eqb (word_of q.file) 1) (bit_of p) (bit_of q),
      hit_picked (eqb (word_of p.file) 2) (eqb (word_of q.file) 2) (bit_of p) (bit_of q),
      hit_picked (eqb (word_of p.file) 3) (eqb (word_of q.file) 3) (bit_of p) (bit_of q),
    )
    (in_one (word_of p.file) (word_of q.file) (eqb (bit_of p) (bit_of q)) (four_words p.file))
    ∙ own_bit p q hp hq

-- ---- lists

pub some_is : (p : Place) (qs : List Place) → Fits p → All Fits qs → some (same_place p) qs ≡ meets (single p) (set_of qs)
unfolding set_of
some_is p [] h k = sym (meets_comm (single p) nothing ∙ none_left (single p))
some_is p (q ∷ qs) h k =
    sym (meets_right (single p) (single q) (set_of qs)
    ∙ ap₂ ◌||◌ (meets_single p q h k.0) (sym (some_is p qs h k.1)))

-- the law: two lists have a place in common exactly where their sets have
pub meet_is : (xs ys : List Place) → All Fits xs → All Fits ys → meet xs ys ≡ meets (set_of xs) (set_of ys)
unfolding set_of
meet_is [] ys h k = sym (none_left (set_of ys))
meet_is (x ∷ xs) ys h k =
    sym (meets_left (single x) (set_of xs) (set_of ys)
    ∙ ap₂ ◌||◌ (sym (some_is x ys h.0 k)) (sym (meet_is xs ys h.1 k)))

pub set_append : (xs ys : List Place) → set_of (xs ++ ys) ≡ joined (set_of xs) (set_of ys)
unfolding set_of
set_append [] ys = sym (joined_none (set_of ys))
set_append (x ∷ xs) ys =
    ap (joined (single x)) (set_append xs ys) ∙ sym (joined_assoc (single x) (set_of xs) (set_of ys))

-- ---- a span is a run of bits in one word

pick_same : (t : Bool) → ◌≡◌ {A = ℕ} (pick t 0 0) 0
pick_same true = refl
pick_same false = refl

pick_or : (t : Bool) (x y : ℕ) → bit_or (pick t x 0) (pick t y 0) ≡ pick t (bit_or x y) 0
pick_or true x y = refl
pick_or false x y = refl

pub no_bits : (w : ℕ) → in_word w 0 ≡ nothing
no_bits w = rw (pick_same (eqb w 0), pick_same (eqb w 1), pick_same (eqb w 2), pick_same (eqb w 3))

joined_on : (w x y : ℕ) → joined (in_word w x) (in_word w y) ≡ in_word w (bit_or x y)
unfolding joined
joined_on w x y = rw (pick_or (eqb w 0) x y, pick_or (eqb w 1) x y, pick_or (eqb w 2) x y, pick_or (eqb w 3) x y)

pub places_set : (f : File) (i n : ℕ) → set_of (places f i n) ≡ in_word (word_of f) (run (bit_from f + i) n)
unfolding set_of
places_set f i zero = sym (ap (in_word (word_of f)) (zero-mul (2 ^ (bit_from f + i))) ∙ no_bits (word_of f))
places_set f i (suc n) =
    ap (joined (in_word (word_of f) (2 ^ (bit_from f + i))))
    (places_set f (suc i) n ∙ ap (λ (m : ℕ). in_word (word_of f) (run m n)) (add-suc (bit_from f) i))
    ∙ joined_on (word_of f) (2 ^ (bit_from f + i)) (run (suc (bit_from f + i)) n)
    ∙ ap (in_word (word_of f)) (sym (run_step (bit_from f + i) n))

-- the same, with the number of the first bit as the code has it
pub places_at : (f : File) (i m n : ℕ) → bit_from f + i ≡ m → set_of (places f i n) ≡ in_word (word_of f) (run m n)
places_at f i m n e = places_set f i n ∙ ap (λ (k : ℕ). in_word (word_of f) (run k n)) e

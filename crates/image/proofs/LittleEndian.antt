-- Bytes as little-endian words: how many there are, which stands where, one more of them stored, and all that fit.
use mathlib.Core.Path.{◌≡◌, refl, sym, ◌∙◌}
use mathlib.Core.Bool.{Bool, true, false}
use mathlib.Core.List.{List, [], ◌∷◌, ◌++◌}
use Prim.Native.Nat.{ℕ, zero, suc, ◌+◌, ◌-◌, ◌*◌, ◌/◌, ◌≤◌, ◌<◌, min}
use Rattle.std.specs.Int.{w32, from_le_bytes}
use Rattle.bits.proofs.Integers.{by_order}
use native.Mathlib.Nat.{sub-zero, zero-add}
use native.Mathlib.Numerals.{add-one}
use native.Mathlib.Omega.{arith}
use lib.Dec.{ltb}
use borrow.Author.Tests.{ltb-false}
use lib.ListN.{length, get_or, take, drop, set, drop_of_length-le}
use lib.Seq.{get_or-drop, take_all, take_at, paste-suc}
use Rattle.image.specs.Directory.{max_words}
use Rattle.image.specs.Bytes.{bytes_refusal, word, words_of_bytes, loaded}
use Rattle.slots.proofs.Picks.{is_true}

pub words_length : (bs : List ℕ) → length (words_of_bytes bs) ≡ length bs / 4
unfolding words_of_bytes
words_length [] = refl
words_length (a ∷ []) = refl
words_length (a ∷ b ∷ []) = refl
words_length (a ∷ b ∷ c ∷ []) = refl
words_length (a ∷ b ∷ c ∷ d ∷ rest) = let h = words_length rest in omega arith

-- the word whose lowest byte is at j
abbrev pub word_at : List ℕ → ℕ → ℕ
word_at bs j = word (get_or bs j 0) (get_or bs (j + 1) 0) (get_or bs (j + 2) 0) (get_or bs (j + 3) 0)

-- four bytes on, the rest of the bytes is read
past : (a b c d : ℕ) (rest : List ℕ) (j k : ℕ) → k ≡ 4 + j → get_or (a ∷ b ∷ c ∷ d ∷ rest) k 0 ≡ get_or rest j 0
past a b c d rest j k e = rw e (sym (get_or-drop 4 (a ∷ b ∷ c ∷ d ∷ rest) j 0))

pub words_at : (bs : List ℕ) (i : ℕ) → i < length (words_of_bytes bs) → get_or (words_of_bytes bs) i 0 ≡ word_at bs (4 * i)
unfolding words_of_bytes
words_at [] i h = absurd (omega arith)
words_at (a ∷ []) i h = absurd (omega arith)
words_at (a ∷ b ∷ []) i h = absurd (omega arith)
words_at (a ∷ b ∷ c ∷ []) i h = absurd (omega arith)
words_at (a ∷ b ∷ c ∷ d ∷ rest) zero h = refl
words_at (a ∷ b ∷ c ∷ d ∷ rest) (suc i) h =
    let q = words_at rest i (omega arith) in
    let e = past a b c d rest in
    let e0 = e (4 * i) (4 * suc i) (omega arith) in
    let e1 = e (4 * i + 1) (4 * suc i + 1) (omega arith) in
    let e2 = e (4 * i + 2) (4 * suc i + 2) (omega arith) in
    let e3 = e (4 * i + 3) (4 * suc i + 3) (omega arith) in
    omega arith

-- the lent words ws once i words of the bytes are stored
abbrev pub partly : List ℕ → List ℕ → ℕ → List ℕ
partly bs ws i = take i (words_of_bytes bs) ++ drop i ws

-- one turn of the loop: the code reads the word from its four bytes
pub word_stored : (bs ws held : List ℕ) (i v : ℕ) → i < length bs / 4 → i < length ws → held ≡ partly bs ws i
    → v ≡ from_le_bytes w32 (get_or bs (4 * i) 0 ∷ get_or bs (4 * i + 1) 0 ∷ get_or bs (4 * i + 2) 0 ∷ get_or bs (4 * i + 3) 0 ∷ [])
    → set held i v ≡ partly bs ws (i + 1)
word_stored bs ws held i v h k e q =
    let l : i < length (words_of_bytes bs) = omega (arith, words_length bs) in
    let r : v ≡ word_at bs (4 * i) = omega arith in
    let w = r ∙ sym (words_at bs i l) in
    cc (paste-suc ws 0 (words_of_bytes bs) i 0 (omega arith) l, zero-add i, zero-add (suc i), add-one i)

-- the bytes or the lent words ended: behind the last of their words the lent ones are kept
pub all_loaded : (bs ws held : List ℕ) (i : ℕ) → i ≡ min (length ws) (length bs / 4) → held ≡ partly bs ws i → held ≡ loaded bs ws
unfolding loaded
all_loaded bs ws held i h e =
    let n = words_length bs in
    by_order (held ≡ loaded bs ws) (length bs / 4) (length ws)
    (λ k. let l : length (words_of_bytes bs) ≡ i = omega arith in
    rw (take_all (length ws) (words_of_bytes bs) (omega arith), l, e, take_all i (words_of_bytes bs) (omega arith)))
    (λ k. let l : length ws ≡ i = omega arith in
    rw (e, l, drop_of_length-le ws {i = i} (omega arith), drop_of_length-le ws {i = length (words_of_bytes bs)} (omega arith)))

-- bytes that are not refused are those of at most so many words
pub accepted : (bs : List ℕ) → bytes_refusal bs ≡ 0 → length bs ≤ 4 * max_words
unfolding bytes_refusal
accepted bs e = go (ltb (4 * max_words) (length bs)) refl
  where
    go : (b : Bool) → ltb (4 * max_words) (length bs) ≡ b → length bs ≤ 4 * max_words
    go true t =
        let no : ◌≡◌ {A = ℕ} 1 0 = is_true 1 _ t refl ∙ e in
        absurd (omega arith)
    go false f = ltb-false _ _ f

-- where there is room for all words of the bytes, those are the front of the lent words
pub front_loaded : (bs ws : List ℕ) → length bs / 4 ≤ length ws
    → take (length bs / 4 - 0) (drop 0 (loaded bs ws)) ≡ words_of_bytes bs
unfolding loaded
front_loaded bs ws h =
    let l = words_length bs in
    let a = take_all (length ws) (words_of_bytes bs) (omega (arith, words_length bs)) in
    rw (sub-zero (length bs / 4), a) (take_at (words_of_bytes bs) _ (length bs / 4) l)

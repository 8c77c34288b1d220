-- Ends by value and their words: each is found at twice its place, low word first.
use mathlib.Core.Path.{◌≡◌, refl, sym, ap, ap₂, ◌∙◌}
use mathlib.Core.List.{List, [], ◌∷◌}
use Prim.Native.Nat.{ℕ, zero, suc, ◌+◌, ◌*◌, ◌≤◌, ◌<◌}
use native.Mathlib.Omega.{arith}
use lib.ListN.{length, get_or, set, take, length-set}
use lib.Seq.{take-suc, take-suc-set, take_all}
use Rattle.layout.specs.Layout.{low_word, high_word, from_words, ends_of, words_of_ends}

-- ---- there and back

pub ends_of_words : (ns : List ℕ) → ends_of (words_of_ends ns) ≡ ns
ends_of_words [] = refl
ends_of_words (n ∷ ns) = ap₂ (λ (x : ℕ) (r : List ℕ). x ∷ r) (omega arith) (ends_of_words ns)

pub words_of_ends_lem : (ws : List ℕ) (n : ℕ) → length ws ≡ 2 * n → ((i : ℕ) → get_or ws i 0 < 4294967296) → words_of_ends (ends_of ws) ≡ ws
words_of_ends_lem [] n e h = refl
words_of_ends_lem (l ∷ []) n e h = absurd (omega arith)
words_of_ends_lem (l ∷ r ∷ ws) zero e h = absurd (omega arith)
words_of_ends_lem (l ∷ r ∷ ws) (suc n) e h =
    let b = h 0 in
    let x : low_word (from_words l r) ≡ l = omega arith in
    let y : high_word (from_words l r) ≡ r = omega arith in
    rw (x, y) (ap (λ (t : List ℕ). l ∷ r ∷ t) (words_of_ends_lem ws n (omega arith) (λ i. h (suc (suc i)))))

pub words_length : (ns : List ℕ) → length (words_of_ends ns) ≡ 2 * length ns
words_length [] = refl
words_length (n ∷ ns) = let e = words_length ns in omega arith

-- ---- one by one

word_low : (ns : List ℕ) (i k : ℕ) → k ≡ 2 * i → i < length ns → get_or (words_of_ends ns) k 0 ≡ low_word (get_or ns i 0)
word_low [] i k e h = absurd (omega arith)
word_low (n ∷ ns) zero zero e h = refl
word_low (n ∷ ns) zero (suc k) e h = absurd (omega arith)
word_low (n ∷ ns) (suc i) zero e h = absurd (omega arith)
word_low (n ∷ ns) (suc i) (suc zero) e h = absurd (omega arith)
word_low (n ∷ ns) (suc i) (suc (suc k)) e h = word_low ns i k (omega arith) (omega arith)

word_high : (ns : List ℕ) (i k : ℕ) → k ≡ 2 * i → i < length ns → get_or (words_of_ends ns) (suc k) 0 ≡ high_word (get_or ns i 0)
word_high [] i k e h = absurd (omega arith)
word_high (n ∷ ns) zero zero e h = refl
word_high (n ∷ ns) zero (suc k) e h = absurd (omega arith)
word_high (n ∷ ns) (suc i) zero e h = absurd (omega arith)
word_high (n ∷ ns) (suc i) (suc zero) e h = absurd (omega arith)
word_high (n ∷ ns) (suc i) (suc (suc k)) e h = word_high ns i k (omega arith) (omega arith)

-- an end more that is split
pub one_split : (ws ends : List ℕ) (i l h : ℕ) → i < length ends → length ends ≡ 8 → length ws ≡ 16
    → take (2 * i) ws ≡ take (2 * i) (words_of_ends ends) → l ≡ low_word (get_or ends i 0) → h ≡ high_word (get_or ends i 0)
    → take (2 * (i + 1)) (set (set ws (2 * i) l) (2 * i + 1) h) ≡ take (2 * (i + 1)) (words_of_ends ends)
one_split ws ends i l h b n k e p q =
    let two : 2 * (i + 1) ≡ suc (suc (2 * i)) = omega arith in
    let next : 2 * i + 1 ≡ suc (2 * i) = omega arith in
    let c = words_length ends in
    let s = length-set ws (2 * i) l in
    rw (two, next, take-suc-set (set ws (2 * i) l) (suc (2 * i)) h (omega arith), take-suc-set ws (2 * i) l (omega arith))
    (rw (take-suc (words_of_ends ends) (suc (2 * i)) 0 (omega arith), take-suc (words_of_ends ends) (2 * i) 0 (omega arith))
    (rw (word_low ends i (2 * i) refl b, word_high ends i (2 * i) refl b, p, q, e)))

-- all of them
pub all_taken : (k : ℕ) (xs ys : List ℕ) → length xs ≤ k → length ys ≤ k → take k xs ≡ take k ys → xs ≡ ys
all_taken k xs ys h l e = sym (take_all k xs h) ∙ e ∙ take_all k ys l

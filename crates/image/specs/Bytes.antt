-- An image as bytes: little-endian words.
use Rattle.std.specs.Prelude.{ℕ, ◌+◌, ◌*◌, ◌%◌, List, [], ◌∷◌, ◌++◌, length, take, drop, ltb, eqb, Result, Ok, Err}
use Rattle.bits.specs.Pick.{pick}
use Rattle.image.specs.Directory.{max_words}
use Rattle.image.specs.declared.bytes.BytesRefusal.{BytesRefusal}
use Rattle.image.specs.declared.bytes.BytesRefusal.TheVariants.{TooLong, BrokenWord}

-- 01's code for each refusal of bytes, 0 for none
abbrev pub refusal_code : BytesRefusal → ℕ
refusal_code TooLong = 1
refusal_code BrokenWord = 2

abbrev pub code_of : Result (Unit {0}) BytesRefusal → ℕ
code_of (Ok x) = 0
code_of (Err e) = refusal_code e

-- 1 for over 65,536 bytes, else 2 for a broken word
unfoldable pub bytes_refusal : List ℕ → ℕ
bytes_refusal bs = pick (ltb (4 * max_words) (length bs)) 1 (pick (eqb (length bs % 4) 0) 0 2)

-- a word by its four bytes, the lowest first
abbrev pub word : ℕ → ℕ → ℕ → ℕ → ℕ
word a b c d = a + 256 * b + 65536 * c + 16777216 * d

-- the words of bytes; those behind the last whole word are in none
unfoldable pub words_of_bytes : List ℕ → List ℕ
words_of_bytes [] = []
words_of_bytes (a ∷ []) = []
words_of_bytes (a ∷ b ∷ []) = []
words_of_bytes (a ∷ b ∷ c ∷ []) = []
words_of_bytes (a ∷ b ∷ c ∷ d ∷ rest) = word a b c d ∷ words_of_bytes rest

-- words written over the front of others, as far as they reach
unfoldable pub loaded : List ℕ → List ℕ → List ℕ
loaded bs ws = take (length ws) (words_of_bytes bs) ++ drop (length (words_of_bytes bs)) ws

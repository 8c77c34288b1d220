-- The numbers of a text: an image's words, or what a call is given.
use Rattle.std.specs.Prelude.{ℕ, Bool, not, ◌&&◌, List, [], ◌∷◌, ◌++◌, length, ◌==◌, nat_lt}
use Rattle.std.specs.declared.option.Option.{Option}
use Rattle.std.specs.declared.option.Option.TheVariants.{None, Some}
use Rattle.std.specs.declared.result.Result.{Result}
use Rattle.std.specs.declared.result.Result.TheVariants.{Ok, Err}
use Rattle.std.specs.List.{fold}
use Rattle.bits.specs.Pick.{pick}
use Rattle.text.specs.Parts.{byte_at, split}
use Rattle.text.specs.Numerals.{number}

-- room for so many words
abbrev pub room : ℕ
room = 256

-- the words that were read: Ok where all were good, which are numbers that had room, else Err
abbrev pub read : Bool → List ℕ → Result (List ℕ) (List ℕ)
read good words = pick good (Ok words) (Err words)

-- a word more, where it is one and there is room; else Err, with those before
abbrev pub longer : List ℕ → Option ℕ → Result (List ℕ) (List ℕ)
longer words (Some value) = pick (nat_lt (length words) room) (Ok (words ++ value ∷ [])) (Err words)
longer words None = Err words

-- nothing, and what begins with a semicolon, is passed over
abbrev pub is_number : List ℕ → Bool
is_number token = not (length token == 0) && not (byte_at token 0 == 59)

-- a token more, behind words that were all good
abbrev pub one_more : List ℕ → List ℕ → Result (List ℕ) (List ℕ)
one_more words token = pick (is_number token) (longer words (number token)) (Ok words)

-- the same words, but no longer all good
abbrev pub spoilt : Result (List ℕ) (List ℕ) → Result (List ℕ) (List ℕ)
spoilt (Ok words) = Err words
spoilt (Err words) = Err words

-- a token more: behind a bad one a number is added all the same, but it stays Err
abbrev pub taken : Result (List ℕ) (List ℕ) → List ℕ → Result (List ℕ) (List ℕ)
taken (Ok words) token = one_more words token
taken (Err words) token = spoilt (one_more words token)

-- the numbers that spaces separate, as far as there is room: Ok where all were good, else Err
unfoldable pub words_in : List ℕ → Result (List ℕ) (List ℕ)
words_in text = fold taken (Ok []) (split 32 text)

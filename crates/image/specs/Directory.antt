-- 01, 'The image': word 0 is the line count n, then come n pairs (offset, length) in words.
use Rattle.std.specs.Prelude.{ℕ, ◌+◌, ◌*◌, List, [], ◌∷◌, Bool, true, ◌&&◌, length, get_or, take, drop, ltb, leb}
use Rattle.line.specs.Lines.{sized}

-- the words of an image, at most
abbrev pub max_words : ℕ
max_words = 16384

-- the pairs, two words each: every length is that of one to four slots, no region starts before low, where the one before
-- it ends, and none passes the image's end
unfoldable pub in_order : ℕ → ℕ → List ℕ → Bool
in_order end low [] = true
in_order end low (o ∷ []) = true
in_order end low (o ∷ l ∷ rest) = sized l && leb low o && leb (o + l) end && in_order end (o + l) rest

-- the line count n
abbrev pub line_count : List ℕ → ℕ
line_count w = get_or w 0 0

-- where the directory ends: 1+2n
abbrev pub directory_end : List ℕ → ℕ
directory_end w = 1 + 2 * line_count w

abbrev pub pairs_of : List ℕ → List ℕ
pairs_of w = take (2 * line_count w) (drop 1 w)

-- an image that is not empty, whose directory does not pass its end, and whose regions are in order, none below 1+2n
unfoldable pub directory : List ℕ → Bool
directory w = ltb 0 (length w) && leb (directory_end w) (length w) && in_order (length w) (directory_end w) (pairs_of w)

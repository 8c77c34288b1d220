-- Names of the board's places: letters and a number.
use Rattle.std.specs.Prelude.{ℕ, ◌+◌, ◌||◌, List, [], ◌∷◌, ◌++◌, length, get_or, take, drop, is_some, ◌==◌, nat_lt, option_map, option_and_then}
use Rattle.std.specs.declared.option.Option.{Option}
use Rattle.std.specs.declared.option.Option.TheVariants.{None, Some}
use Rattle.bits.specs.Pick.{pick}
use Rattle.slots.specs.Places.{File, R, TR, THR, J, K, Base, Length, Dab, file_number}
use Rattle.layout.specs.Layout.{start_at}
use Rattle.text.specs.Parts.{bytes, until}
use Rattle.text.specs.Numerals.{number}
use Rattle.text.specs.Tables.{entry_of}
use Rattle.published.specs.Board.{memory_at, memory_words, report_at}

-- ---- the names, eight letters an entry

-- names with numbers: registers and data alignment buffers, as a state has them, and memory words; each with its first place
-- and how many it has below
abbrev pub names : List ℕ
names =
    bytes "xr      yr      xtr     ytr     xthr    ythr    j       k       "
    ++ bytes "jb      kb      jl      kl      xdab    ydab    m       "

-- what X or J has of a file, with so many places, and behind it what Y or K has
abbrev pub halves : File → ℕ → List (ℕ × ℕ)
halves file n = (start_at (file_number file), n) ∷ (start_at (file_number file) + n, n) ∷ []

abbrev pub spans : List (ℕ × ℕ)
spans =
    halves R 32 ++ halves TR 32 ++ halves THR 4 ++ ((start_at (file_number J), 31) ∷ (start_at (file_number K), 31) ∷ [])
    ++ halves Base 4 ++ halves Length 4 ++ halves Dab 4 ++ ((memory_at, memory_words) ∷ [])

-- names of one place, from the report's first on: its numbers, the condition call's answer, the flags by their groups
abbrev pub singles : List ℕ
singles =
    bytes "code    line    slot    lines   steps   . .     answer  "
    ++ bytes "xaz     xan     xav     xac     yaz     yan     yav     yac     "
    ++ bytes "xsz     xsn     . .     . .     ysz     ysn     . .     . .     "
    ++ bytes "xtrov   xtrsov  . .     . .     ytrov   ytrsov  . .     . .     "
    ++ bytes "jz      jn      jv      jc      kz      kn      kv      kc      "

-- ---- the place of a name

-- the n-th of so many places from the first on
abbrev pub place_in : ℕ → ℕ × ℕ → Option ℕ
place_in n (first, count) = pick (nat_lt n count) (Some (first + n)) None

unfoldable pub numbered : List ℕ → ℕ → Option ℕ
numbered letters n = option_and_then (λ e. place_in n (get_or spans e (0, 0))) (entry_of names letters)

unfoldable pub single : List ℕ → Option ℕ
single letters = option_map (λ e. report_at + e) (entry_of singles letters)

-- the letters with a number, else, without one, the letters alone
unfoldable pub lettered : List ℕ → ℕ → Option ℕ
lettered letters n = pick (is_some (numbered letters n) || nat_lt 0 n) (numbered letters n) (single letters)

-- how many letters stand before the first digit
abbrev pub front : List ℕ → ℕ
front name = until 48 57 name

-- letters and a number; no digits at all stand for 0
unfoldable pub place : List ℕ → Option ℕ
place name =
    pick (front name == length name) (lettered name 0)
    (option_and_then (lettered (take (front name) name)) (number (drop (front name) name)))

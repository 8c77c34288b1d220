-- Serves the code only; a reader of 01 can skip it.
-- A set of register places as four words of bits: R; TR; J and K; THR, base, length, the flag groups and the words of the data
-- alignment buffers. Each of them has a bit of its own, and no file crosses a word. proofs/PlaceSets.antt shows that two lists of
-- places meet exactly where their sets do.
use Rattle.std.specs.Prelude.{ℕ, ◌+◌, ◌-◌, ◌*◌, ◌/◌, ◌%◌, ◌^◌, ◌<◌, List, [], ◌∷◌, Bool, not, get_or, eqb}
use Rattle.std.specs.Int.Bits.{bit_and, bit_or}
use Rattle.bits.specs.Pick.{pick}
use Rattle.slots.specs.Places.{File, Place, file_number}
use Rattle.sets.specs.declared.place_set.PlaceSet.{PlaceSet}

-- ---- the numbers of the places

-- the registers of each file by its number (R, TR, THR, J, K, base, length), the flag groups and, behind memory, whose words are in no
-- set, the words of the data alignment buffers
abbrev pub size : ℕ → ℕ
size n = get_or (64 ∷ 64 ∷ 8 ∷ 32 ∷ 32 ∷ 8 ∷ 8 ∷ 8 ∷ 0 ∷ 8 ∷ []) n 0

-- the number of a file's first register
abbrev pub start : ℕ → ℕ
start n = get_or (0 ∷ 64 ∷ 192 ∷ 128 ∷ 160 ∷ 200 ∷ 208 ∷ 216 ∷ 0 ∷ 224 ∷ []) n 0

abbrev pub word_of : File → ℕ
word_of f = start (file_number f) / 64

abbrev pub bit_from : File → ℕ
bit_from f = start (file_number f) % 64

abbrev pub bit_of : Place → ℕ
bit_of p = bit_from p.file + p.index

-- a register, a flag group or a word of a data alignment buffer
abbrev pub Fits : Place → Type 0
Fits p = p.index < size (file_number p.file)

-- ---- sets

abbrev pub words : ℕ → ℕ → ℕ → ℕ → PlaceSet
words r tr ialu rest = record { r = r; tr = tr; ialu = ialu; rest = rest }

abbrev pub nothing : PlaceSet
nothing = words 0 0 0 0

-- the bits of v in word w
abbrev pub in_word : ℕ → ℕ → PlaceSet
in_word w v = words (pick (eqb w 0) v 0) (pick (eqb w 1) v 0) (pick (eqb w 2) v 0) (pick (eqb w 3) v 0)

abbrev pub single : Place → PlaceSet
single p = in_word (word_of p.file) (2 ^ bit_of p)

unfoldable pub joined : PlaceSet → PlaceSet → PlaceSet
joined a b =
    words (bit_or a.r b.r) (bit_or a.tr b.tr) (bit_or a.ialu b.ialu) (bit_or a.rest b.rest)

-- two sets with a place in common
unfoldable pub meets : PlaceSet → PlaceSet → Bool
meets a b =
    not (eqb
    (bit_or (bit_or (bit_or (bit_and a.r b.r) (bit_and a.tr b.tr)) (bit_and a.ialu b.ialu))
    (bit_and a.rest b.rest))
    0)

-- the set that a list of places is
unfoldable pub set_of : List Place → PlaceSet
set_of [] = nothing
set_of (p ∷ ps) = joined (single p) (set_of ps)

-- ---- places side by side

-- n bits from bit i on
abbrev pub run : ℕ → ℕ → ℕ
run i n = (2 ^ n - 1) * 2 ^ i

-- as the code shifts them in a word of 64
unfoldable pub bits_at : ℕ → ℕ → ℕ
bits_at i n = (2 ^ (n % 64) - 1) * 2 ^ (i % 64) % 2 ^ 64

-- n registers from number i on, of X or Y, of J or K
abbrev pub side_bits : ℕ → ℕ → ℕ → ℕ
side_bits side i n = bits_at (32 * side + i) n

-- n registers of four a side, of the file whose first bit is given
abbrev pub four_bits : ℕ → ℕ → ℕ → ℕ → ℕ
four_bits from side i n = bits_at (from + (4 * side + i)) n

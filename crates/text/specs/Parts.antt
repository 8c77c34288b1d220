-- The parts of a text, which is the list of its bytes.
use Rattle.std.specs.Prelude.{ℕ, suc, ◌+◌, ◌&&◌, List, [], ◌∷◌, take, drop, ◌==◌, nat_le, slice_index, slice_index_or}
use Prim.Native.Char.{code}
use Prim.Native.String.{String}
use Prim.Native.String as strings
use Rattle.bits.specs.Pick.{pick}
use Rattle.text.specs.declared.parts.Parts.{Parts}

-- the bytes of a text
abbrev pub bytes : String → List ℕ
bytes strings.[] = []
bytes (strings.◌∷◌ c cs) = code c ∷ bytes cs

-- how many bytes stand before the first one from low to high
unfoldable pub until : ℕ → ℕ → List ℕ → ℕ
until low high [] = 0
until low high (c ∷ cs) = pick (nat_le low c && nat_le c high) 0 (suc (until low high cs))

abbrev pub before : ℕ → List ℕ → List ℕ
before b cs = take (until b b cs) cs

abbrev pub after : ℕ → List ℕ → List ℕ
after b cs = drop (until b b cs + 1) cs

-- a byte before the first of the parts
abbrev pub joined : ℕ → List (List ℕ) → List (List ℕ)
joined c [] = (c ∷ []) ∷ []
joined c (t ∷ ts) = (c ∷ t) ∷ ts

-- the parts that the bytes b separate; behind a last b there is none
unfoldable pub split : ℕ → List ℕ → List (List ℕ)
split b [] = []
split b (c ∷ cs) = pick (c == b) ([] ∷ split b cs) (joined c (split b cs))

-- what a walk over the parts has left
abbrev pub left : Parts → List (List ℕ)
left p = split p.by p.text.now

-- part k; empty where there are no more than k
abbrev pub part : ℕ → ℕ → List ℕ → List ℕ
part b k cs = slice_index_or (split b cs) k []

abbrev pub byte_at : List ℕ → ℕ → ℕ
byte_at cs i = slice_index cs i

-- Images and orders as the worked theorems write them.
use Rattle.std.specs.Prelude.{ℕ, ◌+◌, ◌*◌, List, [], ◌∷◌, length}

-- a slot's words: unit, op, target, first, second, imm, condition; without a condition
abbrev pub slot_if : ℕ → ℕ → ℕ → ℕ → ℕ → ℕ → ℕ → List ℕ
slot_if u op t f s i c = u ∷ op ∷ t ∷ f ∷ s ∷ i ∷ c ∷ []

abbrev pub slot : ℕ → ℕ → ℕ → ℕ → ℕ → ℕ → List ℕ
slot u op t f s i = slot_if u op t f s i 0

-- a condition as a slot has it: the number plus 1
abbrev pub if_keq : ℕ
if_keq = 7

-- an access's target: width, file (0 XR, 1 YR, 2 J, 3 K) and number
abbrev pub registers : ℕ → ℕ → ℕ → ℕ
registers w file n = 65536 * w + 256 * file + n

-- an image of one line
abbrev pub line : List ℕ → List ℕ
line w = 1 ∷ 3 ∷ length w ∷ w

-- the order of a line of two slots
abbrev pub of4 : ℕ → ℕ → ℕ → ℕ → List ℕ
of4 p q r s = p ∷ q ∷ r ∷ s ∷ 255 ∷ 255 ∷ 255 ∷ 255 ∷ []

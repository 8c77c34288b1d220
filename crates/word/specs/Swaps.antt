-- What the swaps of the bit reversal leave (Note 4 of document 02).
use Rattle.std.specs.Prelude.{◌≡◌, ℕ, ◌/◌, ◌%◌, ◌^◌, ◌<◌, bit_xor}

-- bit i of a word
abbrev pub bit_at : ℕ → ℕ → ℕ
bit_at i w = w / 2 ^ i % 2

-- bit i of the word w stands at i xor d in the word r, for every i
abbrev pub Stands : ℕ → ℕ → ℕ → Type 0
Stands d w r = (i : ℕ) → i < 32 → bit_at (bit_xor i d) r ≡ bit_at i w

-- what five swaps in a row leave of w: bit i then stands at i xor 16, 24, 28, 30 and 31 in turn
abbrev pub InTurn : ℕ → ℕ → ℕ → ℕ → ℕ → ℕ → Type 0
InTurn w halves bytes nibbles pairs bits =
    Stands 16 w halves × Stands 24 w bytes × Stands 28 w nibbles × Stands 30 w pairs × Stands 31 w bits

-- Words of n bits and the signed values they stand for, in two's complement.
use Rattle.std.specs.Prelude.{ℕ, ◌-◌, ◌%◌, ◌^◌, Bool, ◌||◌, ltb, leb, ℤ, pos, negsuc, neg_ℤ, ◌-ℤ◌}
use Rattle.std.specs.Int.Signed.{lt_z}
use Rattle.bits.specs.Pick.{pick}

-- the signed value of n bits
unfoldable pub signed : ℕ → ℕ → ℤ
signed n x = pick (ltb x (2 ^ (n - 1))) (pos x) (pos x -ℤ pos (2 ^ n))

-- the sign bit of a word
abbrev pub negative : ℕ → Bool
negative x = leb (2 ^ 31) x

-- the n low bits of an integer; `negsuc k` is -k - 1
unfoldable pub wrap : ℕ → ℤ → ℕ
wrap n (pos k) = k % 2 ^ n
wrap n (negsuc k) = 2 ^ n - 1 - k % 2 ^ n

-- the least and the greatest signed value of n bits
abbrev pub least : ℕ → ℤ
least n = neg_ℤ (pos (2 ^ (n - 1)))

abbrev pub greatest : ℕ → ℤ
greatest n = pos (2 ^ (n - 1) - 1)

-- signed overflow: no value of n bits
unfoldable pub overflows : ℕ → ℤ → Bool
overflows n z = lt_z z (least n) || lt_z (greatest n) z

-- saturated signed at n bits
unfoldable pub saturate : ℕ → ℤ → ℤ
saturate n z = pick (lt_z z (least n)) (least n) (pick (lt_z (greatest n) z) (greatest n) z)

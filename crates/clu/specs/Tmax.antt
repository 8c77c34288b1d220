-- CLU arithmetic: TMAX and MAX of two integers, and words as lanes of them.
use Rattle.std.specs.Prelude.{ℕ, ◌+◌, ◌*◌, ◌/◌, ◌%◌, ◌^◌, false, ◌||◌, ℤ, pos, negsuc, ◌+ℤ◌, ◌-ℤ◌}
use Rattle.std.specs.Int.Signed.{lt_z}
use Rattle.bits.specs.Pick.{pick}
use Rattle.bits.specs.Signed.{signed, wrap}
use Rattle.bits.specs.Sums.{sat}
use Rattle.bits.specs.declared.signed.Saturated.{Saturated}
use Rattle.bits.specs.declared.signed.Sum.{Sum}
use Rattle.clu.specs.Correction.{correction}

unfoldable pub max_z : ℤ → ℤ → ℤ
max_z x y = pick (lt_z x y) y x

-- d, and if negative -d - 1; `negsuc k` is -k - 1
abbrev pub distance : ℤ → ℕ
distance (pos d) = d
distance (negsuc k) = k

-- TMAX(a, b): to the larger is added the entry for d = a - b; the sum saturates signed at n bits
unfoldable pub tmax : ℕ → ℤ → ℤ → Saturated
tmax n a b = sat n (max_z a b +ℤ pos (correction (distance (a -ℤ b))))

-- MAX makes no sum; it has the width so that it can stand where TMAX does
unfoldable pub larger : ℕ → ℤ → ℤ → Saturated
larger n a b = record { value = max_z a b; over = false }

-- ---- words and shorts

-- an integer as a word
unfoldable pub as_word : Saturated → Sum
as_word s = record { value = wrap 32 s.value; over = s.over }

-- two a word, low first
unfoldable pub as_shorts : Saturated → Saturated → Sum
as_shorts l h = record { value = wrap 16 l.value + wrap 16 h.value * 2 ^ 16; over = l.over || h.over }

unfoldable pub low : ℕ → ℤ
low w = signed 16 (w % 2 ^ 16)

unfoldable pub high : ℕ → ℤ
high w = signed 16 (w / 2 ^ 16)

-- 9, 10: TMAX of two words, or of their shorts
unfoldable pub tmax_words : ℕ → ℕ → Sum
tmax_words a b = as_word (tmax 32 (signed 32 a) (signed 32 b))

unfoldable pub tmax_shorts : ℕ → ℕ → Sum
tmax_shorts a b = as_shorts (tmax 16 (low a) (low b)) (tmax 16 (high a) (high b))

-- sums of shorts, each saturated, as op 11 adds
unfoldable pub add_shorts : ℕ → ℕ → Sum
add_shorts a b = as_shorts (sat 16 (low a +ℤ low b)) (sat 16 (high a +ℤ high b))

-- Addresses.
use Rattle.std.specs.Prelude.{ℕ, zero, suc, ◌+◌, ◌-◌, ◌*◌, ◌/◌, ◌%◌, ◌^◌, ℤ, pos, ◌+ℤ◌, ◌-ℤ◌, ◌==◌, int_le, int_lt}
use Rattle.bits.specs.Pick.{pick}
use Rattle.bits.specs.Signed.{signed, wrap}
use Rattle.word.specs.declared.circular.Address.{Address}

-- less L if at or above base+L, plus L if below base
unfoldable pub wrap_around : ℕ → ℕ → ℤ → ℤ
wrap_around base len z = pick (int_le (pos (base + len)) z) (z -ℤ pos len) (pick (int_lt z (pos base)) (z +ℤ pos len) z)

-- Circular, length L = 0: plain wrapping sum. Otherwise index plus signed modifier, compared exactly
unfoldable pub circular_sum : ℕ → ℕ → ℕ → ℕ → ℕ
circular_sum base len index modifier =
    pick (len == 0) ((index + modifier) % 2 ^ 32) (wrap 32 (wrap_around base len (pos index +ℤ signed 32 modifier)))

-- all that the circular address rule answers
unfoldable pub circular : ℕ → ℕ → ℕ → ℕ → Address
circular base len index modifier = record { value = circular_sum base len index modifier }

-- the aligned quad that holds an index, by the address of its first word (document 02, Note 6)
abbrev pub quad_at : ℕ → ℕ
quad_at index = index - index % 4

-- k bits in reverse order: the lowest goes to the highest place, and the others stand below it, reversed
unfoldable pub reverse_bits : ℕ → ℕ → ℕ
reverse_bits zero w = 0
reverse_bits (suc k) w = w % 2 * 2 ^ k + reverse_bits k (w / 2)

-- Bit-reversed: reverse both words, wrapping add, reverse
unfoldable pub add_reversed : ℕ → ℕ → ℕ
add_reversed a b = reverse_bits 32 ((reverse_bits 32 a + reverse_bits 32 b) % 2 ^ 32)

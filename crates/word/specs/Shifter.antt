-- Units 3, 4: X, Y shifter.
use Rattle.std.specs.Prelude.{ℕ, ◌+◌, ◌-◌, ◌*◌, ◌/◌, ◌%◌, ◌^◌, false, ℤ, pos, negsuc, ◌==◌, bit_and, bit_or, bit_xor, nat_lt}
use Rattle.std.specs.Int.Count.{count_leading_zeros}
use Rattle.std.specs.Int.Signed.{shr_z}
use Rattle.bits.specs.Pick.{pick}
use Rattle.bits.specs.Signed.{signed, negative, wrap}
use Rattle.bits.specs.Flags.{flag_word, nothing}
use Rattle.word.specs.Alu.{complement, plain}
use Rattle.bits.specs.declared.flags.Outcome.{Outcome}

-- left by k places, bits lost; right by k places, zeros entering; 32 or more leaves only fill
unfoldable pub left : ℕ → ℕ → ℕ
left a k = pick (nat_lt k 32) (a * 2 ^ k % 2 ^ 32) 0

unfoldable pub right : ℕ → ℕ → ℕ
right a k = pick (nat_lt k 32) (a / 2 ^ k) 0

-- right by k places, copies of the sign entering: the signed value over 2^k, rounded down
unfoldable pub right_signed : ℕ → ℕ → ℕ
right_signed a k = pick (nat_lt k 32) (wrap 32 (shr_z (signed 32 a) (2 ^ k))) (pick (negative a) (2 ^ 32 - 1) 0)

-- by a signed number of places, positive left; `negsuc k` is -(k + 1). 1 logical: `shift right`, 2 arithmetic:
-- `shift right_signed`
unfoldable pub shift : (ℕ → ℕ → ℕ) → ℕ → ℤ → ℕ
shift to_right a (pos k) = left a k
shift to_right a (negsuc k) = to_right a (k + 1)

-- rotated left by k places, k below 32: the low 32 - k bits move up, and the k bits above them come in below
unfoldable pub rotate : ℕ → ℕ → ℕ
rotate a k = a % 2 ^ (32 - k) * 2 ^ k + a / 2 ^ (32 - k)

-- SZ is 1 when bit k is 0, SN 0; no register is stored
unfoldable pub tested : ℕ → ℕ → Outcome
tested a k = record { value = 0; flags = flag_word (a / 2 ^ k % 2 == 0) false false false }

-- 1 logical and 2 arithmetic shift of first by signed second, 3 rotate left by second mod 32, 4 set, 5 clear,
-- 6 toggle, 7 test of bit (second mod 32), 8 LD0 and 9 LD1
unfoldable pub shifter : ℕ → ℕ → ℕ → Outcome
shifter op a b =
    pick (op == 1) (plain (shift right a (signed 32 b)))
    (pick (op == 2) (plain (shift right_signed a (signed 32 b)))
    (pick (op == 3) (plain (rotate a (b % 32)))
    (pick (op == 4) (plain (bit_or a (2 ^ (b % 32))))
    (pick (op == 5) (plain (bit_and a (complement (2 ^ (b % 32)))))
    (pick (op == 6) (plain (bit_xor a (2 ^ (b % 32))))
    (pick (op == 7) (tested a (b % 32))
    (pick (op == 8) (plain (count_leading_zeros 32 a))
    (pick (op == 9) (plain (count_leading_zeros 32 (complement a))) nothing))))))))

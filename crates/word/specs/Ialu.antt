-- Units 7, 8: J, K IALU.
use Rattle.std.specs.Prelude.{ℕ, ◌+◌, ◌%◌, ◌^◌, false, ◌||◌, ◌==◌, bit_and, bit_or, bit_xor}
use Rattle.std.specs.Int.Signed.{shr_z}
use Rattle.bits.specs.Pick.{pick}
use Rattle.bits.specs.Ops.{keeps_index}
use Rattle.bits.specs.Signed.{wrap}
use Rattle.bits.specs.Flags.{outcome, nothing}
use Rattle.word.specs.Alu.{complement, sum_z, added, subtracted, plain}
use Rattle.word.specs.Shifter.{right, right_signed, rotate}
use Rattle.word.specs.Addresses.{circular, add_reversed}
use Rattle.bits.specs.declared.flags.Outcome.{Outcome}

-- C is the input's low bit
abbrev pub shifted_out : ℕ → ℕ → Outcome
shifted_out a x = outcome x false (a % 2 == 1)

-- ops 15, 16 store no flags
abbrev pub moved : ℕ → Outcome
moved a = record { value = a; flags = 0 }

-- 1 add, 2 subtract, 3 (a+b)/2 signed rounded down, 4 and, 5 and-not, 6 or, 7 xor, 8 not, 9 arithmetic, 10 logical
-- shift right by one, 11, 12 rotate left, right by one (left by 31), 13 circular add, 14 bit-reversed add, 15, 16 first
unfoldable pub ialu : ℕ → ℕ → ℕ → ℕ → ℕ → Outcome
ialu op a b base len =
    pick (op == 1) (added a b)
    (pick (op == 2) (subtracted a b)
    (pick (op == 3) (plain (wrap 32 (shr_z (sum_z a b) 2)))
    (pick (op == 4) (plain (bit_and a b))
    (pick (op == 5) (plain (bit_and a (complement b)))
    (pick (op == 6) (plain (bit_or a b))
    (pick (op == 7) (plain (bit_xor a b))
    (pick (op == 8) (plain (complement a))
    (pick (op == 9) (shifted_out a (right_signed a 1))
    (pick (op == 10) (shifted_out a (right a 1))
    (pick (op == 11) (plain (rotate a 1))
    (pick (op == 12) (plain (rotate a 31))
    (pick (op == 13) (plain (circular base len a b).value)
    (pick (op == 14) (plain (add_reversed a b))
    (pick (op == 15 || op == 16) (moved a) nothing))))))))))))))

-- Accesses, ops 17 to 23: the address. 18 and 20 modify before, and all others after
unfoldable pub address : ℕ → ℕ → ℕ → ℕ
address op index modifier = pick (keeps_index op) ((index + modifier) % 2 ^ 32) index

-- the index after the access: 21, 22 circular, 23 bit-reversed; 18 and 20 are without update
unfoldable pub updated : ℕ → ℕ → ℕ → ℕ → ℕ → ℕ
updated op index modifier base len =
    pick (keeps_index op) index
    (pick (op == 21 || op == 22) (circular base len index modifier).value
    (pick (op == 23) (add_reversed index modifier) ((index + modifier) % 2 ^ 32)))

-- Units 1, 2: X, Y ALU.
use Rattle.std.specs.Prelude.{ℕ, ◌+◌, ◌-◌, ◌%◌, ◌^◌, Bool, false, ℤ, ◌+ℤ◌, ◌-ℤ◌, ◌==◌, bit_and, bit_or, bit_xor, int_lt, nat_le}
use Rattle.std.specs.Int.Count.{ones_in}
use Rattle.bits.specs.Pick.{pick}
use Rattle.bits.specs.Signed.{signed, wrap, overflows, saturate}
use Rattle.bits.specs.Flags.{outcome, nothing}
use Rattle.bits.specs.declared.flags.Outcome.{Outcome}

-- not b
abbrev pub complement : ℕ → ℕ
complement b = 2 ^ 32 - 1 - b

-- a sum's or difference's signed value, exactly
abbrev pub sum_z : ℕ → ℕ → ℤ
sum_z a b = signed 32 a +ℤ signed 32 b

abbrev pub difference_z : ℕ → ℕ → ℤ
difference_z a b = signed 32 a -ℤ signed 32 b

-- AC: the carry of a + b, and of a + not b + 1
abbrev pub sum_carries : ℕ → ℕ → Bool
sum_carries a b = nat_le (2 ^ 32) (a + b)

abbrev pub difference_carries : ℕ → ℕ → Bool
difference_carries a b = nat_le (2 ^ 32) (a + complement b + 1)

-- 1 add, 2 subtract
unfoldable pub added : ℕ → ℕ → Outcome
added a b = outcome ((a + b) % 2 ^ 32) (overflows 32 (sum_z a b)) (sum_carries a b)

unfoldable pub subtracted : ℕ → ℕ → Outcome
subtracted a b = outcome ((a + complement b + 1) % 2 ^ 32) (overflows 32 (difference_z a b)) (difference_carries a b)

-- 11, 12 the same saturating signed: AV is signed overflow before saturation
unfoldable pub added_sat : ℕ → ℕ → Outcome
added_sat a b = outcome (wrap 32 (saturate 32 (sum_z a b))) (overflows 32 (sum_z a b)) (sum_carries a b)

unfoldable pub subtracted_sat : ℕ → ℕ → Outcome
subtracted_sat a b =
    outcome (wrap 32 (saturate 32 (difference_z a b))) (overflows 32 (difference_z a b)) (difference_carries a b)

-- AV and AC are 0
abbrev pub plain : ℕ → Outcome
plain x = outcome x false false

-- 3 signed max, 4 signed min
unfoldable pub max_signed : ℕ → ℕ → ℕ
max_signed a b = pick (int_lt (signed 32 a) (signed 32 b)) b a

unfoldable pub min_signed : ℕ → ℕ → ℕ
min_signed a b = pick (int_lt (signed 32 b) (signed 32 a)) b a

-- Ops on R: 1 add, 2 subtract, 3 signed max, 4 signed min, 5 and, 6 or, 7 xor, 8 not, 9 pass, 10 count of ones,
-- 11, 12 add and subtract saturating signed
unfoldable pub alu : ℕ → ℕ → ℕ → Outcome
alu op a b =
    pick (op == 1) (added a b)
    (pick (op == 2) (subtracted a b)
    (pick (op == 3) (plain (max_signed a b))
    (pick (op == 4) (plain (min_signed a b))
    (pick (op == 5) (plain (bit_and a b))
    (pick (op == 6) (plain (bit_or a b))
    (pick (op == 7) (plain (bit_xor a b))
    (pick (op == 8) (plain (complement a))
    (pick (op == 9) (plain a)
    (pick (op == 10) (plain (ones_in 32 a))
    (pick (op == 11) (added_sat a b)
    (pick (op == 12) (subtracted_sat a b) nothing)))))))))))

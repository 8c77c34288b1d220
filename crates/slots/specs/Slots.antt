-- 01, 'Slots': what the six fields of a slot are, a slot of a unit's family or a refusal (code 3: unknown unit or op, field out of
-- range, unused field not 0). The fields are op, target t, first f, second s, imm i.
use Rattle.std.specs.Prelude.{ℕ, ◌+◌, ◌-◌, ◌/◌, ◌%◌, List, Bool, false, not, ◌&&◌, ◌||◌, Result, Ok, Err, length, get_or, ltb, leb, eqb}
use Rattle.bits.specs.Pick.{pick}
use Rattle.bits.specs.Ops.{keeps_index}
use Rattle.slots.specs.declared.slot.Slot.{Slot}
use Rattle.slots.specs.declared.slot.Slot.TheVariants.{Alu, Shifter, Trellis, Tmax, Despread, Transfer}
use Rattle.slots.specs.declared.slot.Slot.TheVariants.{Arith, Buffer, Access, DabLoad}
use Rattle.slots.specs.declared.slot.SlotRefusal.{SlotRefusal}
use Rattle.slots.specs.declared.slot.SlotRefusal.TheVariants.{BadFields, BadCondition, BadModifier}

-- the fields of a slot: unit, op, target, first, second, imm
abbrev pub field_words : ℕ
field_words = 6

-- ---- fields

abbrev pub between : ℕ → ℕ → ℕ → Bool
between low high x = leb low x && leb x high

-- a register number; an even one; a multiple of 4; a THR pair
abbrev pub register : ℕ → Bool
register x = ltb x 32

abbrev pub even : ℕ → Bool
even x = register x && eqb (x % 2) 0

abbrev pub fourth : ℕ → Bool
fourth x = register x && eqb (x % 4) 0

abbrev pub thr_pair : ℕ → Bool
thr_pair x = eqb x 0 || eqb x 2

abbrev pub unused : ℕ → Bool
unused x = eqb x 0

-- a register number, in a field that some ops leave unused
abbrev pub register_unless : Bool → ℕ → Bool
register_unless out x = not out && register x || out && unused x

-- an IALU's second: a register, and then imm is unused, or 32 for imm
abbrev pub operand : ℕ → ℕ → Bool
operand s i = register s && unused i || eqb s 32

-- ---- Units 1, 2: X, Y ALU. Ops 8-10 use first only

abbrev pub alu_fits : ℕ → ℕ → ℕ → ℕ → ℕ → Bool
alu_fits op t f s i = between 1 12 op && register t && register f && register_unless (between 8 10 op) s && unused i

abbrev pub read_alu : ℕ → ℕ → ℕ → ℕ → ℕ → ℕ → Result Slot SlotRefusal
read_alu b op t f s i = pick (alu_fits op t f s i) (Ok (Alu b op t f s)) (Err BadFields)

-- ---- Units 3, 4: X, Y shifter. Test (7) stores no register: target 0. Ops 8, 9 leave second unused

abbrev pub shifter_fits : ℕ → ℕ → ℕ → ℕ → ℕ → Bool
shifter_fits op t f s i =
    between 1 9 op && register_unless (eqb op 7) t && register f && register_unless (leb 8 op) s && unused i

abbrev pub read_shifter : ℕ → ℕ → ℕ → ℕ → ℕ → ℕ → Result Slot SlotRefusal
read_shifter b op t f s i = pick (shifter_fits op t f s i) (Ok (Shifter b op t f s)) (Err BadFields)

-- ---- Units 5, 6: X, Y CLU

-- ops 1-8: target, first, second are even TR numbers; imm is an R number, multiple of 4
abbrev pub trellis_fits : ℕ → ℕ → ℕ → ℕ → ℕ → Bool
trellis_fits op t f s i = between 1 8 op && even t && even f && even s && fourth i

-- ops 9, 10: R target = TMAX of TR first and TR second
abbrev pub tmax_fits : ℕ → ℕ → ℕ → ℕ → ℕ → Bool
tmax_fits op t f s i = between 9 10 op && register t && register f && register s && unused i

-- ops 11-13: first is an R multiple of 4, second a THR pair; imm is an R number but in 11; in 13 target, imm are even
abbrev pub despread_fits : ℕ → ℕ → ℕ → ℕ → ℕ → Bool
despread_fits op t f s i =
    between 11 13 op && register t && fourth f && thr_pair s && register_unless (eqb op 11) i
    && (not (eqb op 13) || eqb (t % 2) 0 && eqb (i % 2) 0)

abbrev pub read_clu : ℕ → ℕ → ℕ → ℕ → ℕ → ℕ → Result Slot SlotRefusal
read_clu b op t f s i =
    pick (trellis_fits op t f s i) (Ok (Trellis b op t f s i))
    (pick (tmax_fits op t f s i) (Ok (Tmax b op t f s))
    (pick (despread_fits op t f s i) (Ok (Despread b op t f s i)) (Err BadFields)))

-- ---- Units 9, 10: X, Y CLU transfer. Op 2: THR pair target (0, 2) = R pair first (even)

abbrev pub transfer_fits : ℕ → ℕ → ℕ → ℕ → ℕ → Bool
transfer_fits op t f s i =
    between 1 3 op && register t && register f && unused s && unused i
    && (not (eqb op 2) || thr_pair t && eqb (f % 2) 0)

abbrev pub read_transfer : ℕ → ℕ → ℕ → ℕ → ℕ → ℕ → Result Slot SlotRefusal
read_transfer b op t f s i = pick (transfer_fits op t f s i) (Ok (Transfer b op t f)) (Err BadFields)

-- ---- Units 7, 8: J, K IALU

-- ops 1-14: the index of 13 is 0-3; ops 8-12 leave second 0
abbrev pub arith_fits : ℕ → ℕ → ℕ → ℕ → ℕ → Bool
arith_fits op t f s i =
    between 1 14 op && register t && register f && (not (eqb op 13) || ltb f 4)
    && (between 8 12 op && (unused s && unused i) || not (between 8 12 op) && operand s i)

-- ops 15, 16: B, L target (0-3) = first; second 0
abbrev pub buffer_fits : ℕ → ℕ → ℕ → ℕ → ℕ → Bool
buffer_fits op t f s i = between 15 16 op && ltb t 4 && register f && unused s && unused i

-- target = 65,536 × width + 256 × file + number
abbrev pub width_in : ℕ → ℕ
width_in t = t / 65536

abbrev pub file_in : ℕ → ℕ
file_in t = t / 256 % 256

abbrev pub number_in : ℕ → ℕ
number_in t = t % 256

-- width 1, 2, 4 words; file 0-3; number 0-31, a multiple of width; in files 2 and 3 a range that holds register 31 is barred
unfoldable pub range_fits : ℕ → ℕ → ℕ → Bool
range_fits w file n =
    (eqb w 1 || eqb w 2 && eqb (n % 2) 0 || eqb w 4 && eqb (n % 4) 0) && ltb file 4 && ltb n 32
    && (ltb file 2 || leb (n + w) 31)

-- ops 17-23: the index is first, not 31 where updated, 0-3 in 21-23
abbrev pub access_fits : ℕ → ℕ → ℕ → ℕ → ℕ → Bool
access_fits op t f s i =
    range_fits (width_in t) (file_in t) (number_in t) && between 17 23 op && register f
    && (keeps_index op || ltb f 31) && (leb op 20 || ltb f 4) && operand s i

-- ops 24, 25 (document 02, Note 6): R target, a multiple of 4, with width and file bits 0; the index is first, 0-3; second is 32. The
-- modifier, imm, is tested apart (16)
abbrev pub dab_fits : ℕ → ℕ → ℕ → ℕ → Bool
dab_fits op t f s = between 24 25 op && fourth t && ltb f 4 && eqb s 32

-- the block whose data alignment buffer it reads through: op 24 X, 25 Y
abbrev pub dab_block : ℕ → ℕ
dab_block op = op % 2

abbrev pub read_ialu : ℕ → ℕ → ℕ → ℕ → ℕ → ℕ → Result Slot SlotRefusal
read_ialu ialu op t f s i =
    pick (arith_fits op t f s i) (Ok (Arith ialu op t f s i))
    (pick (buffer_fits op t f s i) (Ok (Buffer ialu op t f))
    (pick (access_fits op t f s i) (Ok (Access ialu op (width_in t) (file_in t) (number_in t) f s i))
    (pick (dab_fits op t f s) (Ok (DabLoad ialu (dab_block op) t f i)) (Err BadFields))))

-- ---- by the unit u: odd numbers are X and J, even ones Y and K

abbrev pub side_of : ℕ → ℕ
side_of u = 1 - u % 2

unfoldable pub read_words : ℕ → ℕ → ℕ → ℕ → ℕ → ℕ → Result Slot SlotRefusal
read_words u op t f s i =
    pick (eqb u 1 || eqb u 2) (read_alu (side_of u) op t f s i)
    (pick (eqb u 3 || eqb u 4) (read_shifter (side_of u) op t f s i)
    (pick (eqb u 5 || eqb u 6) (read_clu (side_of u) op t f s i)
    (pick (eqb u 7 || eqb u 8) (read_ialu (side_of u) op t f s i)
    (pick (eqb u 9 || eqb u 10) (read_transfer (side_of u) op t f s i) (Err BadFields)))))

-- the six fields, handed on one by one; `none` where the words are not six
abbrev pub of_six : {A : Type 0} → A → (ℕ → ℕ → ℕ → ℕ → ℕ → ℕ → A) → List ℕ → A
of_six none f w =
    pick (eqb (length w) field_words) (f (get_or w 0 0) (get_or w 1 0) (get_or w 2 0) (get_or w 3 0) (get_or w 4 0) (get_or w 5 0)) none

unfoldable pub read_fields : List ℕ → Result Slot SlotRefusal
read_fields w = of_six (Err BadFields) read_words w

-- ---- the papers' code for each answer of slot reading, and when it is which: 01's 3, and 15 and 16 of document 02

abbrev pub read_code : {A : Type 0} → Result A SlotRefusal → ℕ
read_code (Ok x) = 0
read_code (Err BadFields) = 3
read_code (Err BadCondition) = 15
read_code (Err BadModifier) = 16

-- a known unit, with an op and fields that are one of its families'
unfoldable pub words_fit : ℕ → ℕ → ℕ → ℕ → ℕ → ℕ → Bool
words_fit u op t f s i =
    pick (eqb u 1 || eqb u 2) (alu_fits op t f s i)
    (pick (eqb u 3 || eqb u 4) (shifter_fits op t f s i)
    (pick (eqb u 5 || eqb u 6) (trellis_fits op t f s i || tmax_fits op t f s i || despread_fits op t f s i)
    (pick (eqb u 7 || eqb u 8) (arith_fits op t f s i || buffer_fits op t f s i || access_fits op t f s i || dab_fits op t f s)
    (pick (eqb u 9 || eqb u 10) (transfer_fits op t f s i) false))))

-- 3 for an unknown unit or op, a field out of range, an unused field that is not 0; else 0
abbrev pub fields_code : List ℕ → ℕ
fields_code w = pick (of_six false words_fit w) 0 3

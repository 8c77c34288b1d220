-- The table of document 01 ("Proved together as one table"): every entry of it, its slots with a zero seventh word (document 02,
-- Note 5), as one theorem about the definitions that the contracts cite.
use mathlib.Core.Path.{◌≡◌, refl}
use mathlib.Core.Bool.{true, false}
use mathlib.Core.List.{List, [], ◌∷◌}
use Prim.Native.Nat.{ℕ, ◌-◌, ◌^◌}
use lib.Count.{count_leading_zeros}
use Rattle.bits.specs.Signed.{signed, wrap, overflows, saturate}
use Rattle.bits.specs.Sums.{sat}
use Rattle.bits.specs.Flags.{flag, flag_word, clu_flags, outcome}
use Rattle.word.specs.Addresses.{wrap_around, circular_sum, circular, reverse_bits, add_reversed}
use Rattle.word.specs.Alu.{alu}
use Rattle.word.specs.Ialu.{ialu}
use Rattle.word.specs.Shifter.{rotate, shifter}
use Rattle.clu.specs.Correction.{rows, entry_in, correction}
use Rattle.clu.specs.Tmax.{max_z, tmax, as_word, as_shorts, low, high, tmax_words, tmax_shorts, add_shorts}
use Rattle.clu.specs.Despread.{part, d_i, d_q, b_i, b_q, real, imaginary, total, despread}
use Rattle.clu.specs.Clu.{one, clu}
use Rattle.clu.specs.declared.despread.Pair.{Pair}
use Rattle.slots.specs.Places.{Place, R}
use Rattle.slots.specs.Slots.{range_fits, read_words, read_fields}
use Rattle.slots.specs.Conditionals.{read_slot}
use Rattle.slots.specs.declared.conditional_slot.Conditional.{Conditional}
use Rattle.line.specs.Lines.{reads}
use Rattle.machine.specs.Machine.{Machine, machine, get, put_alone, put, zeros}
use Rattle.machine.specs.Fetches.{values, asked, asks, holding, assign, puts, targets}
use Rattle.machine.specs.SlotConditions.{condition_met}
use Rattle.instructions.specs.Fetching.{fetch_alu, fetch_shifter}
use Rattle.instructions.specs.Storing.{store_alu, store_shifter}
use Rattle.conditional.specs.LineSlots.{fetch_live, fetch_in, store_in}
use Rattle.execution.specs.PlainLine.{line_of}
use Rattle.steps.specs.Steps.{step, steps_from, steps, in_place}
use Rattle.orders.specs.Orders.{waits, precedes, once, unused, in_sequence, admissible_by, admissible}
use Rattle.theorems.specs.Images.{of4 as order}

-- ---- arithmetic

-- a register, and 0 above it
abbrev register : ℕ → Pair
register x = record { low = x; high = 0 }

-- op 9 and op 10 of two registers
abbrev tmax_of : ℕ → ℕ → ℕ
tmax_of a b = (clu 9 (register a) (register b) [] 0).low

abbrev tmax_shorts_of : ℕ → ℕ → ℕ
tmax_shorts_of a b = (clu 10 (register a) (register b) [] 0).low

-- all D = 1 + 0i
abbrev ones : List ℕ
ones = 0x00010001 ∷ 0x00010001 ∷ 0x00010001 ∷ 0x00010001 ∷ []

-- ---- orders

-- X ALU pass R0 = R1 (slot 0) beside X shifter rotate R1 = the R of this number by R2 (slot 1)
abbrev pass_and_rotate : ℕ → List Conditional
pass_and_rotate n = line_of (1 ∷ 9 ∷ 0 ∷ 1 ∷ 0 ∷ 0 ∷ 0 ∷ 3 ∷ 3 ∷ 1 ∷ n ∷ 2 ∷ 0 ∷ 0 ∷ [])

-- R0 1, R1 2, R2 0
abbrev start : Machine
start =
    machine
    record {
      r = 1 ∷ 2 ∷ zeros 62;
      tr = zeros 64;
      thr = zeros 8;
      j = zeros 31;
      k = zeros 31;
      base = zeros 8;
      length = zeros 8;
      flags = zeros 8;
      end = zeros 8;
      dab = zeros 8;
    }
    []

abbrev register0 : Place
register0 = record { file = R; index = 0 }

abbrev register1 : Place
register1 = record { file = R; index = 1 }

-- what the steps of an order leave in R0 and R1
abbrev given : List Conditional → List ℕ → List ℕ
given line bytes = get (in_place line bytes start) register0 ∷ get (in_place line bytes start) register1 ∷ []

pub scope_table :
    (tmax_of 0 0 ≡ 22) × (tmax_of 2 0 ≡ 23) × (tmax_of 0 2 ≡ 24) × (tmax_of 127 0 ≡ 128) × (tmax_of 128 0 ≡ 128)
    × (tmax_of 0 128 ≡ 129) × (tmax_of 0 129 ≡ 129)
    × (tmax_shorts_of 0x7FFF7FFF 0x7FFF7FFF ≡ 0x7FFF7FFF)
    × ((clu 11 (register 0) (register 0) ones 0).low ≡ 0x00080008)
    × ((ialu 14 0x10000004 4 0 0).value ≡ 0x10000002)
    × ((circular 16 8 22 4).value ≡ 18) × ((circular 16 8 16 (2 ^ 32 - 4)).value ≡ 20)
    × ((shifter 8 0 0).value ≡ 32)
    × (admissible (pass_and_rotate 0) start (order 0 2 1 3) ≡ true)
    × (given (pass_and_rotate 0) (order 0 2 1 3) ≡ 2 ∷ 1 ∷ [])
    × (admissible (pass_and_rotate 0) start (order 0 1 2 3) ≡ false)
    × (given (pass_and_rotate 0) (order 0 1 2 3) ≡ 2 ∷ 2 ∷ [])
    × (admissible (pass_and_rotate 3) start (order 0 1 2 3) ≡ true)
unfolding clu one tmax_words tmax_shorts add_shorts as_word as_shorts low high tmax max_z correction rows entry_in sat saturate overflows wrap signed flag flag_word clu_flags despread total real imaginary part d_i d_q b_i b_q ialu outcome add_reversed reverse_bits circular circular_sum wrap_around shifter rotate alu count_leading_zeros reads read_slot read_fields read_words range_fits get put_alone put values asked asks holding condition_met fetch_live fetch_in store_in assign puts targets fetch_alu fetch_shifter store_alu store_shifter step steps_from steps waits precedes once unused in_sequence admissible_by
scope_table =
    (refl, refl, refl, refl, refl, refl, refl, refl, refl, refl, refl, refl, refl, refl, refl, refl, refl, refl)

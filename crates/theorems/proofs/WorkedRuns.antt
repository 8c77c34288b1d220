-- Worked runs: the report and the whole machine that the plain run of an image ends with, each by computation of its
-- definition.
use mathlib.Core.Path.{◌≡◌, refl}
use mathlib.Core.List.{List, [], ◌∷◌, ◌++◌}
use Prim.Native.Nat.{ℕ, ◌+◌}
use lib.ListN.{length}
use Rattle.bits.specs.Signed.{signed, wrap, overflows, saturate}
use Rattle.bits.specs.Sums.{sat}
use Rattle.bits.specs.Flags.{flag, flag_word, clu_flags, outcome}
use Rattle.word.specs.Alu.{added, alu}
use Rattle.word.specs.Shifter.{rotate, shifter}
use Rattle.word.specs.Addresses.{wrap_around, circular_sum, circular}
use Rattle.word.specs.Ialu.{ialu, address, updated}
use Rattle.clu.specs.Correction.{rows, entry_in, correction}
use Rattle.clu.specs.Tmax.{max_z, tmax, larger, as_word, as_shorts, low, high, tmax_words, add_shorts}
use Rattle.clu.specs.Trellis.{best_of, lane, words, trellis}
use Rattle.clu.specs.Despread.{part, d_i, d_q, b_i, b_q, real, imaginary, total, despread, shifted_pair}
use Rattle.clu.specs.Clu.{one, two, clu}
use Rattle.slots.specs.Slots.{range_fits, read_words, read_fields}
use Rattle.slots.specs.Conditionals.{read_slot}
use Rattle.slots.specs.Stores.{stored}
use Rattle.line.specs.Rules.{slots_verdict, reads_verdict}
use Rattle.line.specs.Lines.{reads}
use Rattle.image.specs.Directory.{in_order, directory}
use Rattle.image.specs.Check.{line_at, lines_from, line_by_line, check_of}
use Rattle.machine.specs.Machine.{Machine, machine, view, make, get, put_alone, renew, put, sums, put_right, zeros, zero_state}
use Rattle.machine.specs.Fetches.{values, asks, holding, assign, puts}
use Rattle.machine.specs.SlotConditions.{condition_met}
use Rattle.instructions.specs.Held.{padded}
use Rattle.instructions.specs.Fetching.{fetch_alu, fetch_shifter, fetch_trellis, fetch_tmax, fetch_despread, fetch_transfer, fetch_arith, fetch_buffer, fetch_access}
use Rattle.instructions.specs.Storing.{store_alu, store_shifter, store_trellis, store_tmax, store_despread, store_transfer, store_arith, store_buffer, store_access, clu_of}
use Rattle.conditional.specs.LineSlots.{fetch_live, fetch_in, store_in}
use Rattle.refusals.specs.Refusals.{run_verdict}
use Rattle.execution.specs.PlainLine.{plain_line, refusal_of}
use Rattle.runs.specs.Plain.{ended, report, plain_from, plain_run_on, plain_run}
use Rattle.theorems.specs.Images.{slot, registers, line}

-- ---- images

-- an image of two lines
abbrev lines : List ℕ → List ℕ → List ℕ
lines v w = 2 ∷ 5 ∷ length v ∷ (5 + length v) ∷ length w ∷ (v ++ w)

-- ---- machines, by the first registers of their files: all the others are 0

-- J, K, base, length, J's flag group and memory
abbrev ialus : List ℕ → List ℕ → List ℕ → List ℕ → ℕ → List ℕ → Machine
ialus j k base len flags memory =
    machine
    record {
      r = zeros 64;
      tr = zeros 64;
      thr = zeros 8;
      j = padded 31 j;
      k = padded 31 k;
      base = padded 8 base;
      length = padded 8 len;
      flags = 0 ∷ 0 ∷ 0 ∷ 0 ∷ 0 ∷ 0 ∷ flags ∷ 0 ∷ [];
      end = sums (padded 8 base) (padded 8 len);
      dab = zeros 8;
    }
    memory

-- X's R, TR, THR and CLU flag group; no memory
abbrev block : List ℕ → List ℕ → List ℕ → ℕ → Machine
block r tr thr flags =
    machine
    record {
      r = padded 64 r;
      tr = padded 64 tr;
      thr = padded 8 thr;
      j = zeros 31;
      k = zeros 31;
      base = zeros 8;
      length = zeros 8;
      flags = 0 ∷ 0 ∷ 0 ∷ 0 ∷ flags ∷ 0 ∷ 0 ∷ 0 ∷ [];
      end = zeros 8;
      dab = zeros 8;
    }
    []

-- a machine with false ends, of J's first two buffers
abbrev with_false_ends : ℕ → ℕ → Machine → Machine
with_false_ends e f m = make (view m) (padded 8 (e ∷ f ∷ []))

-- one that a run leaves as it was
abbrev kept : Machine
kept = ialus (3 ∷ []) (4 ∷ []) (1 ∷ []) (2 ∷ []) 9 (7 ∷ 8 ∷ [])

-- R0 to R9: all D = 1 + 0i in R4 to R7, and 5 and 6 in R8 and R9
abbrev chips : List ℕ
chips = 0 ∷ 0 ∷ 0 ∷ 0 ∷ 0x00010001 ∷ 0x00010001 ∷ 0x00010001 ∷ 0x00010001 ∷ 5 ∷ 6 ∷ []

pub record WorkedRuns : Type 0 where
  -- ---- code 0
  -- 01's example of `linerun`: J0 = J0 + 5
  pub linerun_example :
      plain_run (1 ∷ 3 ∷ 7 ∷ 7 ∷ 1 ∷ 0 ∷ 0 ∷ 32 ∷ 5 ∷ 0 ∷ []) (machine zero_state (zeros 64))
      ≡ ended (report 0 0 0 1 2) (ialus (5 ∷ []) [] [] [] 0 (zeros 64))
  -- no line is run where n = 0
  pub no_lines : plain_run (0 ∷ []) kept ≡ ended (report 0 0 0 0 0) kept
  -- line 1 reads what line 0 left
  pub second_line :
      plain_run (lines (slot 7 1 0 0 32 5) (slot 7 1 1 0 32 2)) (ialus [] [] [] [] 0 [])
      ≡ ended (report 0 0 0 2 4) (ialus (5 ∷ 7 ∷ []) [] [] [] 0 [])
  -- ---- the slots of a line read the state before it
  -- a K load beside J's store of the same word sees the old word
  pub load_beside_store :
      plain_run (line (slot 7 20 (registers 1 2 1) 0 32 3 ++ slot 8 18 (registers 1 3 1) 0 32 3))
      (ialus (0 ∷ 7 ∷ []) [] [] [] 0 (0 ∷ 0 ∷ 0 ∷ 9 ∷ []))
      ≡ ended (report 0 0 0 1 4) (ialus (0 ∷ 7 ∷ []) (0 ∷ 9 ∷ []) [] [] 0 (0 ∷ 0 ∷ 0 ∷ 7 ∷ []))
  -- the same with the slots in the other order
  pub store_beside_load :
      plain_run (line (slot 8 18 (registers 1 3 1) 0 32 3 ++ slot 7 20 (registers 1 2 1) 0 32 3))
      (ialus (0 ∷ 7 ∷ []) [] [] [] 0 (0 ∷ 0 ∷ 0 ∷ 9 ∷ []))
      ≡ ended (report 0 0 0 1 4) (ialus (0 ∷ 7 ∷ []) (0 ∷ 9 ∷ []) [] [] 0 (0 ∷ 0 ∷ 0 ∷ 7 ∷ []))
  -- 01's pass and rotate: R0 = R1 beside R1 = R0 rotated by R2 is an exchange
  pub pass_and_rotate_lem :
      plain_run (line (slot 1 9 0 1 0 0 ++ slot 3 3 1 0 2 0)) (block (1 ∷ 2 ∷ 0 ∷ []) [] [] 0)
      ≡ ended (report 0 0 0 1 4) (block (2 ∷ 1 ∷ 0 ∷ []) [] [] 0)
  -- ---- DESPREAD and THR
  -- without a load the pair shifts right 16; D = 1 + 0i and all B bits set: -8 and -8
  pub pair_shifts :
      plain_run (line (slot 5 11 0 4 0 0)) (block chips [] (0x0001FFFF ∷ 0x00020003 ∷ []) 0)
      ≡ ended (report 0 0 0 1 2) (block chips (0xFFF8FFF8 ∷ []) (0x00030001 ∷ 0x00000002 ∷ []) 0)
  -- beside a load of the pair: THR holds the loaded words, and DESPREAD is made from the old ones
  pub load_wins :
      plain_run (line (slot 5 11 0 4 0 0 ++ slot 9 2 0 8 0 0)) (block chips [] (0x0001FFFF ∷ 0x00020003 ∷ []) 0)
      ≡ ended (report 0 0 0 1 4) (block chips (0xFFF8FFF8 ∷ []) (5 ∷ 6 ∷ []) 0)
  -- the same with the load in slot 0
  pub load_first_wins :
      plain_run (line (slot 9 2 0 8 0 0 ++ slot 5 11 0 4 0 0)) (block chips [] (0x0001FFFF ∷ 0x00020003 ∷ []) 0)
      ≡ ended (report 0 0 0 1 4) (block chips (0xFFF8FFF8 ∷ []) (5 ∷ 6 ∷ []) 0)
  -- op 12 beside the load: R10 takes the old TR0
  pub load_wins_over_move :
      plain_run (line (slot 5 12 0 4 0 10 ++ slot 9 2 0 8 0 0)) (block chips (3 ∷ []) (0x0001FFFF ∷ 0x00020003 ∷ []) 0)
      ≡ ended (report 0 0 0 1 4) (block (chips ++ (3 ∷ [])) (0xFFF8FFF8 ∷ []) (5 ∷ 6 ∷ []) 0)
  -- beside a load of the other pair this one shifts
  pub other_pair_loaded :
      plain_run (line (slot 5 11 0 4 0 0 ++ slot 9 2 2 8 0 0)) (block chips [] (0x0001FFFF ∷ 0x00020003 ∷ 1 ∷ 1 ∷ []) 0)
      ≡ ended (report 0 0 0 1 4) (block chips (0xFFF8FFF8 ∷ []) (0x00030001 ∷ 0x00000002 ∷ 5 ∷ 6 ∷ []) 0)
  -- ---- TRSOV
  -- op 9, TMAX(0, 0): no sum saturates, and TRSOV stays
  pub trsov_stays :
      plain_run (line (slot 5 9 0 0 1 0)) (block [] [] [] 2) ≡ ended (report 0 0 0 1 2) (block (22 ∷ []) [] [] 2)
  -- TROV is cleared, and TRSOV is not
  pub trov_cleared :
      plain_run (line (slot 5 9 0 0 1 0)) (block [] [] [] 3) ≡ ended (report 0 0 0 1 2) (block (22 ∷ []) [] [] 2)
  -- op 3: a sum that saturates sets both
  pub both_set :
      plain_run (line (slot 5 3 2 0 4 0)) (block (0 ∷ 0 ∷ 1 ∷ 0 ∷ []) (0x7FFFFFFF ∷ []) [] 0)
      ≡ ended (report 0 0 0 1 2) (block (0 ∷ 0 ∷ 1 ∷ 0 ∷ []) (0x7FFFFFFF ∷ 0 ∷ 0x7FFFFFFF ∷ []) [] 3)
  -- ---- IALU
  -- J31 = J0 - 5, where J0 is 5: the result 0 is dropped, and its flags Z and C are stored
  pub flags_only :
      plain_run (line (slot 7 1 31 0 32 0xFFFFFFFB)) (ialus (5 ∷ 6 ∷ []) [] [] [] 0 [])
      ≡ ended (report 0 0 0 1 2) (ialus (5 ∷ 6 ∷ []) [] [] [] 9 [])
  -- J31 = J0 + 3 and then J1 = J31 + 1: register 31 reads as 0
  pub reads_as_0 :
      plain_run (lines (slot 7 1 31 0 32 3) (slot 7 1 1 31 32 1)) (ialus (5 ∷ 6 ∷ []) [] [] [] 0 [])
      ≡ ended (report 0 0 0 2 4) (ialus (5 ∷ 1 ∷ []) [] [] [] 0 [])
  -- a circular load with base 16, length 8, index 22 and modifier 4 loads word 22 and leaves 18
  pub wrap_above :
      plain_run (line (slot 7 21 (registers 1 2 4) 0 32 4))
      (ialus (22 ∷ []) [] (16 ∷ []) (8 ∷ []) 0 (zeros 22 ++ (9 ∷ zeros 9)))
      ≡ ended (report 0 0 0 1 2)
      (ialus (18 ∷ 0 ∷ 0 ∷ 0 ∷ 9 ∷ []) [] (16 ∷ []) (8 ∷ []) 0 (zeros 22 ++ (9 ∷ zeros 9)))
  -- a circular store with index 16 and modifier -4 stores word 16 and leaves 20
  pub wrap_below :
      plain_run (line (slot 7 22 (registers 1 2 4) 0 32 0xFFFFFFFC))
      (ialus (16 ∷ 0 ∷ 0 ∷ 0 ∷ 9 ∷ []) [] (16 ∷ []) (8 ∷ []) 0 (zeros 32))
      ≡ ended (report 0 0 0 1 2)
      (ialus (20 ∷ 0 ∷ 0 ∷ 0 ∷ 9 ∷ []) [] (16 ∷ []) (8 ∷ []) 0 (zeros 16 ++ (9 ∷ zeros 15)))
  -- ---- refusals in the run, in line 1: line 0's effects stay and its steps count
  -- 9: line 0 makes L0 8, and then J0 = 9 is outside its buffer; K's result beside it is not stored
  pub outside_buffer :
      plain_run (lines (slot 7 16 0 1 0 0) (slot 8 1 0 0 32 5 ++ slot 7 21 (registers 1 2 4) 0 32 1))
      (ialus (9 ∷ 8 ∷ []) [] [] [] 0 (zeros 16))
      ≡ ended (report 9 1 1 1 2) (ialus (9 ∷ 8 ∷ []) [] [] (8 ∷ []) 0 (zeros 16))
  -- 9: the same of circular add
  pub add_outside_buffer :
      plain_run (lines (slot 7 16 0 1 0 0) (slot 7 13 2 0 32 1)) (ialus (9 ∷ 8 ∷ []) [] [] [] 0 (zeros 16))
      ≡ ended (report 9 1 0 1 2) (ialus (9 ∷ 8 ∷ []) [] [] (8 ∷ []) 0 (zeros 16))
  -- 9: a modifier of -9 is larger than the length 8, though index and result are inside
  pub modifier_too_large :
      plain_run (lines (slot 7 16 0 1 0 0) (slot 7 13 2 0 32 0xFFFFFFF7)) (ialus (2 ∷ 8 ∷ []) [] [] [] 0 (zeros 16))
      ≡ ended (report 9 1 0 1 2) (ialus (2 ∷ 8 ∷ []) [] [] (8 ∷ []) 0 (zeros 16))
  -- one of -8 is not, and leaves the index where it was
  pub modifier_as_long :
      plain_run (lines (slot 7 16 0 1 0 0) (slot 7 13 2 0 32 0xFFFFFFF8)) (ialus (2 ∷ 8 ∷ []) [] [] [] 0 (zeros 16))
      ≡ ended (report 0 0 0 2 4) (ialus (2 ∷ 8 ∷ 2 ∷ []) [] [] (8 ∷ []) 0 (zeros 16))
  -- 9: a buffer of 8 words that ends past a memory of 7
  pub buffer_past_memory :
      plain_run (lines (slot 7 16 0 1 0 0) (slot 7 13 2 0 32 1)) (ialus (2 ∷ 8 ∷ []) [] [] [] 0 (zeros 7))
      ≡ ended (report 9 1 0 1 2) (ialus (2 ∷ 8 ∷ []) [] [] (8 ∷ []) 0 (zeros 7))
  -- 9: two words a step in a buffer whose base is odd
  pub base_not_aligned :
      plain_run (line (slot 7 21 (registers 2 2 4) 0 32 2)) (ialus (2 ∷ []) [] (1 ∷ []) (8 ∷ []) 0 (zeros 16))
      ≡ ended (report 9 0 0 0 0) (ialus (2 ∷ []) [] (1 ∷ []) (8 ∷ []) 0 (zeros 16))
  -- a length of 0 is never 9: the base is not looked at
  pub no_length :
      plain_run (line (slot 7 21 (registers 1 2 4) 0 32 1)) (ialus (2 ∷ []) [] (99 ∷ []) [] 0 (0 ∷ 0 ∷ 9 ∷ []))
      ≡ ended (report 0 0 0 1 2) (ialus (3 ∷ 0 ∷ 0 ∷ 0 ∷ 9 ∷ []) [] (99 ∷ []) [] 0 (0 ∷ 0 ∷ 9 ∷ []))
  -- 8: two words at address 3, after a line of two slots
  pub not_aligned :
      plain_run (lines (slot 7 1 0 0 32 3 ++ slot 8 19 (registers 1 3 1) 0 32 2) (slot 7 17 (registers 2 2 4) 0 32 1))
      (ialus [] (0 ∷ 7 ∷ []) [] [] 0 (zeros 8))
      ≡ ended (report 8 1 0 1 4) (ialus (3 ∷ []) (2 ∷ 7 ∷ []) [] [] 0 (7 ∷ zeros 7))
  -- 8: the word past memory
  pub past_memory :
      plain_run (lines (slot 7 1 0 0 32 8) (slot 8 1 1 0 32 5 ++ slot 7 19 (registers 1 2 4) 0 32 1))
      (ialus [] [] [] [] 0 (zeros 8))
      ≡ ended (report 8 1 1 1 2) (ialus (8 ∷ []) [] [] [] 0 (zeros 8))
  -- 10: J's store of words 4 to 7 and K's of word 7
  pub stored_twice_lem :
      plain_run (lines (slot 7 1 0 0 32 4) (slot 7 19 (registers 4 2 4) 0 32 4 ++ slot 8 20 (registers 1 3 1) 0 32 7))
      (ialus [] [] [] [] 0 (1 ∷ 2 ∷ 3 ∷ 4 ∷ 5 ∷ 6 ∷ 7 ∷ 8 ∷ []))
      ≡ ended (report 10 1 1 1 2) (ialus (4 ∷ []) [] [] [] 0 (1 ∷ 2 ∷ 3 ∷ 4 ∷ 5 ∷ 6 ∷ 7 ∷ 8 ∷ []))
  -- 9 of slot 1 comes before 8 of slot 0: each is tested over the whole line
  pub buffer_before_address :
      plain_run (lines (slot 7 1 0 0 32 8) (slot 7 17 (registers 1 2 4) 0 32 1 ++ slot 8 21 (registers 1 3 4) 0 32 1))
      (ialus [] (5 ∷ []) [] (0 ∷ 0 ∷ 0 ∷ 0 ∷ 4 ∷ []) 0 (zeros 8))
      ≡ ended (report 9 1 1 1 2) (ialus (8 ∷ []) (5 ∷ []) [] (0 ∷ 0 ∷ 0 ∷ 0 ∷ 4 ∷ []) 0 (zeros 8))
  -- 8 of slot 1 comes before 10 of slots 0 and 1
  pub address_before_twice :
      plain_run (lines (slot 7 1 0 0 32 7) (slot 7 19 (registers 1 2 4) 0 32 1 ++ slot 8 20 (registers 2 3 4) 0 32 7))
      (ialus [] [] [] [] 0 (zeros 8))
      ≡ ended (report 8 1 1 1 2) (ialus (7 ∷ []) [] [] [] 0 (zeros 8))
  -- ---- before the run nothing changes but false ends
  -- 3: slot 1 of the last line has an unknown unit
  pub last_line_unreadable :
      plain_run (lines (slot 7 1 0 0 32 5) (slot 7 1 1 0 32 5 ++ slot 11 1 0 0 0 0)) kept
      ≡ ended (report 3 1 1 0 0) kept
  -- 2: the last word of the image is missing
  pub broken_directory :
      plain_run (1 ∷ 3 ∷ 7 ∷ 7 ∷ 1 ∷ 0 ∷ 0 ∷ 32 ∷ 5 ∷ []) kept
      ≡ ended (report 2 0 0 0 0) kept
  -- ---- ends (document 02, Note 2): J's B0 1 and L0 2 end at 3, whatever a caller brings in
  -- also where the call is then refused
  pub ends_where_refused :
      plain_run (1 ∷ 3 ∷ 7 ∷ 7 ∷ 1 ∷ 0 ∷ 0 ∷ 32 ∷ 5 ∷ []) (with_false_ends 9 9 kept) ≡ ended (report 2 0 0 0 0) kept
  pub ends_where_unreadable :
      plain_run (line (slot 11 1 0 0 0 0)) (with_false_ends 9 9 kept) ≡ ended (report 3 0 0 0 0) kept
  -- and where no line is run
  pub ends_without_lines : plain_run (0 ∷ []) (with_false_ends 9 9 kept) ≡ ended (report 0 0 0 0 0) kept
  -- a false end of 20 or 40 has no part in `wrap-above`
  pub false_end_unused :
      plain_run (line (slot 7 21 (registers 1 2 4) 0 32 4))
      (with_false_ends 20 40 (ialus (22 ∷ []) [] (16 ∷ []) (8 ∷ []) 0 (zeros 22 ++ (9 ∷ zeros 9))))
      ≡ ended (report 0 0 0 1 2)
      (ialus (18 ∷ 0 ∷ 0 ∷ 0 ∷ 9 ∷ []) [] (16 ∷ []) (8 ∷ []) 0 (zeros 22 ++ (9 ∷ zeros 9)))
  -- B0 = 2^32 - 1 beside L0 of the same: their sum does not wrap
  pub end_exact :
      plain_run (line (slot 7 15 0 0 0 0)) (ialus (0xFFFFFFFF ∷ []) [] [] (0xFFFFFFFF ∷ []) 0 [])
      ≡ ended (report 0 0 0 1 2)
      (make (view (ialus (0xFFFFFFFF ∷ []) [] (0xFFFFFFFF ∷ []) (0xFFFFFFFF ∷ []) 0 [])) (padded 8 (0x1FFFFFFFE ∷ [])))
  -- J's B1 = 5 and K's L1 = 6 in one line: J's second end and K's second, each from what its store leaves
  pub two_renewed :
      plain_run (line (slot 7 15 1 0 0 0 ++ slot 8 16 1 0 0 0)) (ialus (5 ∷ []) (6 ∷ []) (1 ∷ []) (2 ∷ 3 ∷ []) 0 [])
      ≡ ended (report 0 0 0 1 4)
      (make
      (view (ialus (5 ∷ []) (6 ∷ []) (1 ∷ 5 ∷ []) (2 ∷ 3 ∷ 0 ∷ 0 ∷ 0 ∷ 6 ∷ []) 0 []))
      (3 ∷ 8 ∷ 0 ∷ 0 ∷ 0 ∷ 6 ∷ 0 ∷ 0 ∷ []))

pub worked_runs : WorkedRuns
unfolding plain_run plain_run_on put_right plain_from plain_line refusal_of run_verdict check_of directory in_order line_by_line lines_from line_at reads reads_verdict
    slots_verdict read_slot read_fields read_words range_fits stored get put_alone renew put values asks holding condition_met fetch_live
    fetch_in store_in assign puts fetch_alu fetch_shifter fetch_trellis
    fetch_tmax fetch_despread fetch_transfer fetch_arith fetch_buffer fetch_access store_alu store_shifter store_trellis store_tmax
    store_despread store_transfer store_arith store_buffer store_access clu_of alu added shifter rotate
    ialu address updated circular circular_sum wrap_around clu one two trellis words lane best_of tmax larger max_z correction rows
    entry_in tmax_words add_shorts as_word as_shorts low high despread total real imaginary part d_i d_q b_i b_q shifted_pair sat
    saturate overflows wrap signed flag flag_word clu_flags outcome
worked_runs =
    record {
      linerun_example = refl;
      no_lines = refl;
      second_line = refl;
      load_beside_store = refl;
      store_beside_load = refl;
      pass_and_rotate_lem = refl;
      pair_shifts = refl;
      load_wins = refl;
      load_first_wins = refl;
      load_wins_over_move = refl;
      other_pair_loaded = refl;
      trsov_stays = refl;
      trov_cleared = refl;
      both_set = refl;
      flags_only = refl;
      reads_as_0 = refl;
      wrap_above = refl;
      wrap_below = refl;
      outside_buffer = refl;
      add_outside_buffer = refl;
      modifier_too_large = refl;
      modifier_as_long = refl;
      buffer_past_memory = refl;
      base_not_aligned = refl;
      no_length = refl;
      not_aligned = refl;
      past_memory = refl;
      stored_twice_lem = refl;
      buffer_before_address = refl;
      address_before_twice = refl;
      last_line_unreadable = refl;
      broken_directory = refl;
      ends_where_refused = refl;
      ends_where_unreadable = refl;
      ends_without_lines = refl;
      false_end_unused = refl;
      end_exact = refl;
      two_renewed = refl;
    }

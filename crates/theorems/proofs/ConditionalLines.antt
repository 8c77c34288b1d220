-- Document 02, Note 5: worked lines of conditional slots, each by computation of the definitions.
use mathlib.Core.Path.{◌≡◌, refl}
use mathlib.Core.Bool.{Bool, true, false}
use mathlib.Core.List.{List, [], ◌∷◌, ◌++◌}
use Prim.Native.Nat.{ℕ, ◌+◌}
use lib.ListN.{length}
use Rattle.bits.specs.Signed.{signed, wrap, overflows, saturate}
use Rattle.bits.specs.Sums.{sat}
use Rattle.bits.specs.Flags.{flag, flag_word, clu_flags, outcome}
use Rattle.word.specs.Alu.{added}
use Rattle.word.specs.Addresses.{wrap_around, circular_sum, circular}
use Rattle.word.specs.Ialu.{ialu, address, updated}
use Rattle.clu.specs.Tmax.{as_shorts, low, high, add_shorts}
use Rattle.clu.specs.Despread.{part, d_i, d_q, b_i, b_q, real, imaginary, total, despread, shifted_pair}
use Rattle.clu.specs.Clu.{one, two, clu}
use Rattle.slots.specs.Slots.{range_fits, read_words, read_fields}
use Rattle.slots.specs.Conditionals.{read_slot}
use Rattle.slots.specs.Stores.{stored}
use Rattle.line.specs.Rules.{slots_verdict, reads_verdict}
use Rattle.line.specs.Lines.{reads}
use Rattle.image.specs.Directory.{in_order, directory}
use Rattle.image.specs.Check.{line_at, lines_from, line_by_line, check_of}
use Rattle.machine.specs.Machine.{Machine, machine, get, put_alone, renew, put, put_right, zeros}
use Rattle.machine.specs.Fetches.{values, asked, asks, holding, assign, puts, targets}
use Rattle.machine.specs.Conditions.{met, holds_in}
use Rattle.machine.specs.SlotConditions.{condition_met}
use Rattle.instructions.specs.Held.{padded}
use Rattle.instructions.specs.Fetching.{fetch_despread, fetch_transfer, fetch_arith, fetch_access}
use Rattle.instructions.specs.Storing.{store_despread, store_transfer, store_arith, store_access, clu_of}
use Rattle.conditional.specs.LineSlots.{fetch_live, fetch_in, store_in}
use Rattle.refusals.specs.Refusals.{run_verdict}
use Rattle.execution.specs.PlainLine.{plain_line, refusal_of, line_of}
use Rattle.steps.specs.Steps.{step, steps_from, steps, in_place}
use Rattle.orders.specs.Orders.{waits, precedes, once, unused, in_sequence, admissible_by, admissible}
use Rattle.runs.specs.Plain.{ended, report, plain_from, plain_run_on, plain_run}
use Rattle.ordered.specs.Ordered.{ordered_from, ordered_run_on, ordered_run}
use Rattle.stepping.specs.OrderedLine.{ordered_refusal}
use Rattle.theorems.specs.Images.{slot_if, if_keq, registers, line, of4}

-- ---- lines

-- conditions as a slot has them: the number plus 1
abbrev always : ℕ
always = 0

abbrev if_jeq : ℕ
if_jeq = 1

-- XTR0 += DESPREAD (R7:4, THR1:0), under a condition
abbrev despread_if : ℕ → List ℕ
despread_if c = slot_if 5 11 0 4 0 0 c

-- XTHR1:0 = R9:8, if JEQ
abbrev load : List ℕ
load = slot_if 9 2 0 8 0 0 if_jeq

-- J0 = J0 + 5, which stores J's flags
abbrev sum : List ℕ
sum = slot_if 7 1 0 0 32 5 always

-- a DESPREAD, if KEQ, beside the load of its pair, and the two beside the sum: slots 0, 1 and 2
abbrev pair : List ℕ
pair = despread_if if_keq ++ load

abbrev pair_and_sum : List ℕ
pair_and_sum = pair ++ sum

-- ---- orders

abbrev of6 : ℕ → ℕ → ℕ → ℕ → ℕ → ℕ → List ℕ
of6 p q r s t u = p ∷ q ∷ r ∷ s ∷ t ∷ u ∷ 255 ∷ 255 ∷ []

-- ---- machines

-- Z of a flag group, which is its lowest flag
abbrev set : ℕ
set = 1

abbrev clear : ℕ
clear = 0

-- TR0, the THR pair, J0, and the flag groups of J and K. All D = 1 + 0i in R4 to R7, and 5 and 6 in R8 and R9
abbrev at : ℕ → ℕ → ℕ → ℕ → ℕ → ℕ → Machine
at tr0 thr0 thr1 j0 jz kz =
    machine
    record {
      r = padded 64 (0 ∷ 0 ∷ 0 ∷ 0 ∷ 0x00010001 ∷ 0x00010001 ∷ 0x00010001 ∷ 0x00010001 ∷ 5 ∷ 6 ∷ []);
      tr = padded 64 (tr0 ∷ []);
      thr = padded 8 (thr0 ∷ thr1 ∷ []);
      j = padded 31 (j0 ∷ []);
      k = zeros 31;
      base = zeros 8;
      length = zeros 8;
      flags = 0 ∷ 0 ∷ 0 ∷ 0 ∷ 0 ∷ 0 ∷ jz ∷ kz ∷ [];
      end = zeros 8;
      dab = zeros 8;
    }
    []

-- before the line: all B bits of the first 16 are set, so that DESPREAD is -8 and -8
abbrev start : ℕ → ℕ → Machine
start jz kz = at 0 0x0001FFFF 0x00020003 0 jz kz

-- after it: the pair shifted, loaded or as it was
abbrev shifted : ℕ → ℕ → ℕ → Machine
shifted j0 jz kz = at 0xFFF8FFF8 0x00030001 0x00000002 j0 jz kz

abbrev loaded : ℕ → ℕ → ℕ → Machine
loaded j0 jz kz = at 0xFFF8FFF8 5 6 j0 jz kz

abbrev unshifted : ℕ → ℕ → ℕ → Machine
unshifted j0 jz kz = at 0xFFF8FFF8 0x0001FFFF 0x00020003 j0 jz kz

-- ---- a DESPREAD beside a conditional load of its pair

abbrev admitted : List ℕ → Machine → List ℕ → Bool
admitted w m order = admissible (line_of w) m order

pub record DespreadBesideLoad : Type 0 where
  -- ---- the load is live, and the line leaves J's flags: the load wins, and DESPREAD reads the pair before it is loaded
  pub live : plain_run (line pair) (start set set) ≡ ended (report 0 0 0 1 4) (loaded 0 set set)
  pub live_admitted : admitted pair (start set set) (of4 0 2 1 3) ≡ true
  pub live_refused : admitted pair (start set set) (of4 2 3 0 1) ≡ false
  -- ---- it fails, and the line leaves J's flags: it stores nothing, so that its steps may come first, and the pair shifts
  pub failing : plain_run (line pair) (start clear set) ≡ ended (report 0 0 0 1 4) (shifted 0 clear set)
  pub failing_admitted : admitted pair (start clear set) (of4 2 3 0 1) ≡ true
  pub failing_ordered :
      ordered_run (line pair) (of4 2 3 0 1) 4 (start clear set) ≡ ended (report 0 0 0 1 4) (shifted 0 clear set)
  pub failing_refused : admitted pair (start clear set) (of4 1 2 3 0) ≡ false
  -- ---- it is live, and the sum stores J's flags: both fetches come before that store
  pub live_flags : plain_run (line pair_and_sum) (start set set) ≡ ended (report 0 0 0 1 6) (loaded 5 clear set)
  pub live_flags_admitted : admitted pair_and_sum (start set set) (of6 0 2 4 5 3 1) ≡ true
  pub live_flags_ordered :
      ordered_run (line pair_and_sum) (of6 0 2 4 5 3 1) 6 (start set set) ≡ ended (report 0 0 0 1 6) (loaded 5 clear set)
  -- DESPREAD reads the load's flags too: alone this bars the order, since the load stores after DESPREAD's fetch
  pub live_flags_refused : admitted pair_and_sum (start set set) (of6 2 4 5 0 1 3) ≡ false
  -- ---- it fails, and the sum stores J's flags
  pub failing_flags : plain_run (line pair_and_sum) (start clear set) ≡ ended (report 0 0 0 1 6) (shifted 5 clear set)
  pub failing_flags_admitted : admitted pair_and_sum (start clear set) (of6 2 3 0 1 4 5) ≡ true
  pub failing_flags_refused : admitted pair_and_sum (start clear set) (of6 2 3 4 5 0 1) ≡ false
  -- ---- without that read the steps would end otherwise: from J0 = -5 the sum sets Z, the load has failed by then, and DESPREAD
  -- finds its condition met: nobody stores the pair
  pub read_needed :
      plain_run (line pair_and_sum) (at 0 0x0001FFFF 0x00020003 0xFFFFFFFB clear set)
      ≡ ended (report 0 0 0 1 6) (shifted 0 9 set)
  pub read_left_out :
      in_place (line_of pair_and_sum) (2 ∷ 3 ∷ 4 ∷ 5 ∷ 0 ∷ 1 ∷ []) (at 0 0x0001FFFF 0x00020003 0xFFFFFFFB clear set)
      ≡ unshifted 0 9 set
  -- ---- a DESPREAD whose own condition fails reads K's flags alone, and stores nothing
  pub not_live : plain_run (line pair_and_sum) (start clear clear) ≡ ended (report 0 0 0 1 6) (at 0 0x0001FFFF 0x00020003 5 clear clear)
  pub not_live_admitted : admitted pair_and_sum (start clear clear) (of6 2 3 4 5 0 1) ≡ true
  pub not_live_beside_load : admitted pair_and_sum (start set clear) (of6 2 3 4 5 0 1) ≡ true
  -- ---- an unconditional load adds no read
  pub unconditional_load :
      admitted (despread_if always ++ slot_if 9 2 0 8 0 0 always ++ sum) (start clear clear) (of6 4 5 0 2 1 3) ≡ true

pub despread_beside_load : DespreadBesideLoad
unfolding plain_run plain_run_on put_right plain_from plain_line refusal_of run_verdict ordered_run ordered_run_on ordered_from ordered_refusal
    check_of directory in_order line_by_line lines_from line_at reads reads_verdict slots_verdict read_slot read_fields read_words range_fits stored
    get put_alone renew put values asked asks holding assign puts targets met holds_in condition_met fetch_live fetch_in store_in
    fetch_despread fetch_transfer fetch_arith store_despread store_transfer store_arith clu_of clu one two add_shorts as_shorts low high
    despread total real imaginary part d_i d_q b_i b_q shifted_pair sat saturate overflows wrap signed flag flag_word clu_flags outcome
    ialu added step steps_from steps waits precedes once unused in_sequence admissible_by
despread_beside_load =
    record {
      live = refl;
      live_admitted = refl;
      live_refused = refl;
      failing = refl;
      failing_admitted = refl;
      failing_ordered = refl;
      failing_refused = refl;
      live_flags = refl;
      live_flags_admitted = refl;
      live_flags_ordered = refl;
      live_flags_refused = refl;
      failing_flags = refl;
      failing_flags_admitted = refl;
      failing_flags_refused = refl;
      read_needed = refl;
      read_left_out = refl;
      not_live = refl;
      not_live_admitted = refl;
      not_live_beside_load = refl;
      unconditional_load = refl;
    }

-- ---- accesses that the running state would refuse, and conditions on flags that the line stores

-- J0, J1, K0, J's L0, the flag groups of J and K, and memory
abbrev ialus : ℕ → ℕ → ℕ → ℕ → ℕ → ℕ → List ℕ → Machine
ialus j0 j1 k0 l0 jz kz memory =
    machine
    record {
      r = zeros 64;
      tr = zeros 64;
      thr = zeros 8;
      j = padded 31 (j0 ∷ j1 ∷ []);
      k = padded 31 (k0 ∷ []);
      base = zeros 8;
      length = padded 8 (l0 ∷ []);
      flags = 0 ∷ 0 ∷ 0 ∷ 0 ∷ 0 ∷ 0 ∷ jz ∷ kz ∷ [];
      end = padded 8 (l0 ∷ []);
      dab = zeros 8;
    }
    memory

-- a circular load J1 = [J0 += 1] with a length of 4, a load J1 = [J31 + 9] and a store [J31 + 2] = J0, each if KEQ
abbrev outside : List ℕ
outside = slot_if 7 21 (registers 1 2 1) 0 32 1 if_keq

abbrev past : List ℕ
past = slot_if 7 18 (registers 1 2 1) 31 32 9 if_keq

abbrev store : List ℕ
store = slot_if 7 20 (registers 1 2 0) 31 32 2 if_keq

-- K stores word 2 too
abbrev stores : List ℕ
stores = store ++ slot_if 8 20 (registers 1 3 0) 31 32 2 always

pub record FailingSlots : Type 0 where
  -- 9: J0 = 7 is outside the words 0 to 3
  pub outside_live : plain_run (line outside) (ialus 7 0 0 4 0 set (zeros 4)) ≡ ended (report 9 0 0 0 0) (ialus 7 0 0 4 0 set (zeros 4))
  pub outside_failing : plain_run (line outside) (ialus 7 0 0 4 0 clear (zeros 4)) ≡ ended (report 0 0 0 1 2) (ialus 7 0 0 4 0 clear (zeros 4))
  -- 8: word 9 is past memory
  pub past_live : plain_run (line past) (ialus 7 0 0 0 0 set (zeros 4)) ≡ ended (report 8 0 0 0 0) (ialus 7 0 0 0 0 set (zeros 4))
  pub past_failing : plain_run (line past) (ialus 7 0 0 0 0 clear (zeros 4)) ≡ ended (report 0 0 0 1 2) (ialus 7 0 0 0 0 clear (zeros 4))
  -- 10: word 2, of which K's store alone is made where J's fails
  pub twice_live :
      plain_run (line stores) (ialus 7 0 6 0 0 set (zeros 4)) ≡ ended (report 10 0 1 0 0) (ialus 7 0 6 0 0 set (zeros 4))
  pub twice_failing :
      plain_run (line stores) (ialus 7 0 6 0 0 clear (zeros 4))
      ≡ ended (report 0 0 0 1 4) (ialus 7 0 6 0 0 clear (0 ∷ 0 ∷ 6 ∷ 0 ∷ []))
  -- also where the memory has no words at all
  pub no_memory : plain_run (line stores) (ialus 7 0 6 0 0 clear []) ≡ ended (report 8 0 1 0 0) (ialus 7 0 6 0 0 clear [])
  -- K0 = K0 - 6 sets K's Z, which J's slot if KEQ beside it does not see: it reads the flags before the line
  pub old_flags_fail :
      plain_run (line (slot_if 8 1 0 0 32 0xFFFFFFFA always ++ slot_if 7 1 1 0 32 1 if_keq)) (ialus 7 0 6 0 0 clear [])
      ≡ ended (report 0 0 0 1 4) (ialus 7 0 0 0 0 9 [])
  -- and where they hold, and K's result clears them
  pub old_flags_hold :
      plain_run (line (slot_if 8 1 0 0 32 1 always ++ slot_if 7 1 1 0 32 1 if_keq)) (ialus 7 0 6 0 0 set [])
      ≡ ended (report 0 0 0 1 4) (ialus 7 8 7 0 0 0 [])
  -- an order in which K stores before that fetch is refused
  pub old_flags_order :
      ordered_run (line (slot_if 8 1 0 0 32 1 always ++ slot_if 7 1 1 0 32 1 if_keq)) (of4 0 1 2 3) 4 (ialus 7 0 6 0 0 set [])
      ≡ ended (report 11 0 0 0 0) (ialus 7 0 6 0 0 set [])
  -- a condition on the flags that its own slot stores reads the old ones: J1 = J0 + 1, if JEQ
  pub own_flags :
      plain_run (line (slot_if 7 1 1 0 32 1 if_jeq)) (ialus 7 0 0 0 set 0 []) ≡ ended (report 0 0 0 1 2) (ialus 7 8 0 0 0 0 [])
  pub own_flags_failing :
      plain_run (line (slot_if 7 1 1 0 32 1 if_jeq)) (ialus 7 0 0 0 clear 0 []) ≡ ended (report 0 0 0 1 2) (ialus 7 0 0 0 clear 0 [])
  pub own_flags_order : admitted (slot_if 7 1 1 0 32 1 if_jeq) (ialus 7 0 0 0 set 0 []) (0 ∷ 1 ∷ 255 ∷ 255 ∷ 255 ∷ 255 ∷ 255 ∷ 255 ∷ []) ≡ true
  -- operands of a slot whose condition fails may be stored before its fetch: J1 = J0 + 1 if KEQ, beside K's load of J0
  pub operand_stored_first :
      admitted (slot_if 7 1 1 0 32 1 if_keq ++ slot_if 8 18 (registers 1 2 0) 31 32 2 always) (ialus 7 0 6 0 0 clear (zeros 4))
      (of4 2 3 0 1)
      ≡ true
  pub operand_of_live_slot :
      admitted (slot_if 7 1 1 0 32 1 if_keq ++ slot_if 8 18 (registers 1 2 0) 31 32 2 always) (ialus 7 0 6 0 0 set (zeros 4))
      (of4 2 3 0 1)
      ≡ false
  -- a limit inside a line: its two steps count, and its store does nothing
  pub failing_steps :
      ordered_run (line (slot_if 7 1 1 0 32 1 if_keq)) (0 ∷ 1 ∷ 255 ∷ 255 ∷ 255 ∷ 255 ∷ 255 ∷ 255 ∷ []) 1 (ialus 7 0 6 0 0 clear [])
      ≡ ended (report 0 0 0 0 1) (ialus 7 0 6 0 0 clear [])
  -- the outcome is held from the fetch: in a sequence that is not admissible, K's flags change after it
  pub outcome_held :
      in_place (line_of (slot_if 7 1 1 0 32 1 if_keq ++ slot_if 8 1 0 0 32 1 always)) (0 ∷ 2 ∷ 3 ∷ 1 ∷ []) (ialus 7 0 6 0 0 set [])
      ≡ ialus 7 8 7 0 0 0 []

pub failing_slots : FailingSlots
unfolding plain_run plain_run_on put_right plain_from plain_line refusal_of run_verdict ordered_run ordered_run_on ordered_from ordered_refusal
    check_of directory in_order line_by_line lines_from line_at reads reads_verdict slots_verdict read_slot read_fields read_words range_fits stored
    get put_alone renew put values asked asks holding assign puts targets met holds_in condition_met fetch_live fetch_in store_in
    fetch_arith fetch_access store_arith store_access ialu added address updated circular circular_sum wrap_around wrap overflows signed flag flag_word
    outcome step steps_from steps waits precedes once unused in_sequence admissible_by
failing_slots =
    record {
      outside_live = refl;
      outside_failing = refl;
      past_live = refl;
      past_failing = refl;
      twice_live = refl;
      twice_failing = refl;
      no_memory = refl;
      old_flags_fail = refl;
      old_flags_hold = refl;
      old_flags_order = refl;
      own_flags = refl;
      own_flags_failing = refl;
      own_flags_order = refl;
      operand_stored_first = refl;
      operand_of_live_slot = refl;
      failing_steps = refl;
      outcome_held = refl;
    }

-- Worked ordered runs: the report and the whole machine that each ends with, by computation of the definition; sequences of
-- steps that are not admissible; and an image with orders that meet the premises of demand 3.
use mathlib.Core.Path.{◌≡◌, refl}
use mathlib.Core.List.{List, [], ◌∷◌, ◌++◌}
use Prim.Native.Nat.{ℕ, ◌+◌, ◌*◌, ◌≤◌}
use native.Mathlib.Omega.{arith}
use lib.ListN.{length, take}
use Rattle.bits.specs.Pick.{pick}
use Rattle.bits.specs.Flags.{flag, flag_word, outcome}
use Rattle.bits.specs.Signed.{signed, wrap, overflows}
use Rattle.word.specs.Alu.{alu}
use Rattle.word.specs.Shifter.{rotate, shifter}
use Rattle.word.specs.Addresses.{wrap_around, circular_sum, circular}
use Rattle.word.specs.Ialu.{ialu, address, updated}
use Rattle.slots.specs.Slots.{range_fits, read_words, read_fields}
use Rattle.slots.specs.Conditionals.{read_slot}
use Rattle.slots.specs.declared.conditional_slot.LineSlot.{LineSlot}
use Rattle.slots.specs.Stores.{stored}
use Rattle.line.specs.Rules.{slots_verdict, reads_verdict}
use Rattle.line.specs.Lines.{reads}
use Rattle.image.specs.Directory.{line_count, in_order, directory}
use Rattle.image.specs.Check.{line_at, lines_from, line_by_line, lines_of, check_of}
use Rattle.machine.specs.Machine.{Machine, machine, view, make, same_file, get, put_alone, renew, put, put_right, zeros}
use Rattle.machine.specs.Fetches.{values, asked, asks, holding, assign, puts, targets}
use Rattle.machine.specs.SlotConditions.{condition_met}
use Rattle.instructions.specs.Fetching.{fetch_alu, fetch_shifter, fetch_arith, fetch_buffer, fetch_access}
use Rattle.instructions.specs.Storing.{store_alu, store_shifter, store_arith, store_buffer, store_access}
use Rattle.conditional.specs.LineSlots.{fetch_live, fetch_in, store_in}
use Rattle.refusals.specs.Refusals.{run_verdict}
use Rattle.execution.specs.PlainLine.{plain_line, refusal_of, line_of}
use Rattle.slots.specs.Places.{Length, Place, Memory}
use Rattle.slots.specs.Conditionals.{never}
use Rattle.slots.specs.declared.slot.Slot.TheVariants.{Access}
use Rattle.steps.specs.Steps.{Act, act, acts_of, InLine, begun, step, steps_from, steps, in_place}
use Rattle.orders.specs.Orders.{waits, precedes, once, unused, in_sequence, admissible_by}
use Rattle.runs.specs.Plain.{ended, report, plain_from, plain_run_on, plain_run}
use Rattle.ordered.specs.Ordered.{ordered_from, ordered_run_on, ordered_run}
use Rattle.stepping.specs.OrderedLine.{ordered_refusal}
use Rattle.theorems.specs.Demand.{AllAdmissible, step_touches}
use Rattle.theorems.specs.Images.{of4 as order}

-- ---- lines and machines

-- X ALU pass R0 = R1 (slot 0) beside X shifter rotate R1 = R0 by R2 (slot 1)
abbrev swap : List ℕ
swap = 1 ∷ 9 ∷ 0 ∷ 1 ∷ 0 ∷ 0 ∷ 0 ∷ 3 ∷ 3 ∷ 1 ∷ 0 ∷ 2 ∷ 0 ∷ 0 ∷ []

-- J circular load XR8 = [J0 += 1] (slot 0) beside K store [K1 += 1] = XR0 (slot 1)
abbrev move : List ℕ
move = 7 ∷ 21 ∷ 65544 ∷ 0 ∷ 32 ∷ 1 ∷ 0 ∷ 8 ∷ 19 ∷ 65536 ∷ 1 ∷ 32 ∷ 1 ∷ 0 ∷ []

-- J load XR8 = [J0 + 0] (slot 0) beside K load J0 = [K1 + 0] (slot 1)
abbrev chase : List ℕ
chase = 7 ∷ 18 ∷ 65544 ∷ 0 ∷ 32 ∷ 0 ∷ 0 ∷ 8 ∷ 18 ∷ 66048 ∷ 1 ∷ 32 ∷ 0 ∷ 0 ∷ []

-- J store [J0 + 0] = XR0 (slot 0) beside K load J0 = [K1 + 0] (slot 1)
abbrev chase_store : List ℕ
chase_store = 7 ∷ 20 ∷ 65536 ∷ 0 ∷ 32 ∷ 0 ∷ 0 ∷ 8 ∷ 18 ∷ 66048 ∷ 1 ∷ 32 ∷ 0 ∷ 0 ∷ []

-- J's L0 = J0 (slot 0) beside K5 = K5 + 0 (slot 1)
abbrev resize : List ℕ
resize = 7 ∷ 16 ∷ 0 ∷ 0 ∷ 0 ∷ 0 ∷ 0 ∷ 8 ∷ 1 ∷ 5 ∷ 5 ∷ 32 ∷ 0 ∷ 0 ∷ []

abbrev two_lines : List ℕ → List ℕ → List ℕ
two_lines v w = 2 ∷ 5 ∷ length v ∷ (5 + length v) ∷ length w ∷ (v ++ w)

abbrev example : List ℕ
example = two_lines swap move

-- in both lines each fetch precedes the stores that wait for it
abbrev crossed : List ℕ
crossed = order 0 2 1 3 ++ order 2 0 3 1

-- R0, R1, R8; J0; K1; the ALU's and the shifter's flags; memory. J's buffer 0 is the words 4 to 7
abbrev at : ℕ → ℕ → ℕ → ℕ → ℕ → ℕ → ℕ → List ℕ → Machine
at r0 r1 r8 j0 k1 alus shifts memory =
    machine
    record {
      r = r0 ∷ r1 ∷ 0 ∷ 0 ∷ 0 ∷ 0 ∷ 0 ∷ 0 ∷ r8 ∷ zeros 55;
      tr = zeros 64;
      thr = zeros 8;
      j = j0 ∷ zeros 30;
      k = 0 ∷ k1 ∷ zeros 29;
      base = 4 ∷ zeros 7;
      length = 4 ∷ zeros 7;
      flags = alus ∷ 0 ∷ shifts ∷ zeros 5;
      end = 8 ∷ zeros 7;
      dab = zeros 8;
    }
    memory

abbrev words : ℕ → List ℕ
words last = 10 ∷ 11 ∷ 12 ∷ 13 ∷ 14 ∷ 15 ∷ 16 ∷ last ∷ []

abbrev start : Machine
start = at 1 2 0 7 7 0 0 (words 17)

-- the machine after the first line, and after both
abbrev swapped : Machine
swapped = at 2 1 0 7 7 0 0 (words 17)

abbrev moved : Machine
moved = at 2 1 17 4 8 0 0 (words 2)

-- the start with another length of J's buffer 0, and with given ends
abbrev with_buffer : ℕ → ℕ → Machine
with_buffer len end = make (λ f. pick (same_file f Length) (len ∷ zeros 7) (view start f)) (end ∷ zeros 7)

-- memory's last word is an address past it
abbrev far_start : Machine
far_start = at 1 2 5 3 7 0 0 (words 1000)

-- ---- the premises of demand 3 can be met

pub premises_met :
    ((check_of example).code ≡ 0)
    × (length start.memory ≤ 16384)
    × (length crossed ≡ 8 * line_count example)
    × AllAdmissible (lines_of example) crossed start
    × ((plain_run example start).report.code ≡ 0)
    × ((plain_run example start).report.steps ≤ 8)
unfolding plain_run plain_run_on put_right plain_from plain_line refusal_of run_verdict check_of directory in_order line_by_line lines_from line_at reads reads_verdict
    slots_verdict read_slot read_fields read_words range_fits stored get put_alone renew put values asked asks holding condition_met fetch_live
    fetch_in store_in assign puts targets fetch_alu fetch_shifter fetch_arith fetch_access store_alu store_shifter store_arith store_access alu shifter rotate ialu address
    updated circular circular_sum wrap_around wrap overflows signed flag flag_word outcome waits precedes once unused in_sequence admissible_by
premises_met = (refl, omega arith, refl, λ _. (refl, λ _. (refl, tt)), refl, omega arith)

-- ---- what a step touches: the circular load its word, in its fetch alone

abbrev fetched : InLine
fetched = step (acts_of (line_of move)) 0 (begun swapped)

-- an access of J0's buffer, word for word with XR8
abbrev access : ℕ → LineSlot
access op = record { slot = Access 0 op 1 0 8 0 32 1; condition = 0; load = never }

abbrev load : Act
load = act (access 21)

abbrev memory_word : ℕ → Place
memory_word i = record { file = Memory; index = i }

pub words_touched :
    (step_touches load 0 (begun swapped) ≡ memory_word 7 ∷ [])
    × (step_touches load 1 fetched ≡ [])
    × (step_touches (act (access 22)) 1 fetched ≡ memory_word 7 ∷ [])
unfolding step get put_alone put values asked asks holding condition_met fetch_live fetch_in store_in assign targets fetch_access store_access address updated circular
    circular_sum wrap_around wrap overflows signed reads read_slot read_fields read_words range_fits
words_touched = (refl, refl, refl)

-- ---- runs

pub record WorkedOrders : Type 0 where
  pub both_lines : ordered_run example crossed 8 start ≡ ended (report 0 0 0 2 8) moved
  -- a limit inside a line: slot 0 has stored, slot 1 has fetched
  pub inside_line_0 : ordered_run example crossed 3 start ≡ ended (report 0 0 0 0 3) (at 2 2 0 7 7 0 0 (words 17))
  -- inside the second line: K has stored the word that J has loaded
  pub inside_line_1 : ordered_run example crossed 7 start ≡ ended (report 0 0 0 1 7) (at 2 1 0 7 8 0 0 (words 2))
  -- one step of the second line changes nothing yet
  pub first_step : ordered_run example crossed 5 start ≡ ended (report 0 0 0 1 5) swapped
  -- the limit is spent with the last step of a line
  pub line_done : ordered_run example crossed 4 start ≡ ended (report 0 0 0 1 4) swapped
  pub no_step : ordered_run example crossed 0 start ≡ ended (report 0 0 0 0 0) start
  -- more than the run's steps
  pub ample : ordered_run example crossed 1000 start ≡ ended (report 0 0 0 2 8) moved
  -- 11: slot 0 stores R0 before slot 1 reads it; the same in the second line, after the first is done
  pub not_admissible : ordered_run example (order 0 1 2 3 ++ order 2 0 3 1) 8 start ≡ ended (report 11 0 0 0 0) start
  pub line_1_not_admissible :
      ordered_run example (order 0 2 1 3 ++ order 2 3 0 1) 8 start ≡ ended (report 11 1 0 1 4) swapped
  -- tested before the line's first step, though one step alone is left; not tested where none is
  pub tested_at_first_step :
      ordered_run example (order 0 2 1 3 ++ order 2 3 0 1) 5 start ≡ ended (report 11 1 0 1 4) swapped
  pub spent_before_test :
      ordered_run example (order 0 2 1 3 ++ order 2 3 0 1) 4 start ≡ ended (report 0 0 0 1 4) swapped
  -- a tail that is not 255; a step twice; a step that the line does not have; a store before its own fetch
  pub tail_used :
      ordered_run example (0 ∷ 2 ∷ 1 ∷ 3 ∷ 255 ∷ 255 ∷ 255 ∷ 0 ∷ order 2 0 3 1) 8 start ≡ ended (report 11 0 0 0 0) start
  pub step_twice : ordered_run example (order 0 2 3 3 ++ order 2 0 3 1) 8 start ≡ ended (report 11 0 0 0 0) start
  pub no_such_step : ordered_run example (order 0 2 1 4 ++ order 2 0 3 1) 8 start ≡ ended (report 11 0 0 0 0) start
  pub store_first : ordered_run example (order 2 1 0 3 ++ order 2 0 3 1) 8 start ≡ ended (report 11 0 0 0 0) start
  -- 11 before the run: orders that are not 8n bytes; after the image's own refusals
  pub orders_short : ordered_run example (take 15 crossed) 8 start ≡ ended (report 11 0 0 0 0) start
  pub orders_long : ordered_run example (crossed ++ 255 ∷ []) 8 start ≡ ended (report 11 0 0 0 0) start
  pub image_first : ordered_run (1 ∷ 3 ∷ 7 ∷ []) [] 8 start ≡ ended (report 2 0 0 0 0) start
  pub lines_first : ordered_run (1 ∷ 3 ∷ 7 ∷ 11 ∷ 1 ∷ 0 ∷ 0 ∷ 0 ∷ 0 ∷ 0 ∷ []) [] 8 start ≡ ended (report 3 0 0 0 0) start
  pub no_lines : ordered_run (0 ∷ []) [] 0 start ≡ ended (report 0 0 0 0 0) start
  pub no_lines_orders : ordered_run (0 ∷ []) (255 ∷ []) 0 start ≡ ended (report 11 0 0 0 0) start
  -- the running state's refusal before the order's: J0 + 1 is past memory; J0 is outside its buffer
  pub state_first :
      ordered_run (1 ∷ 3 ∷ 7 ∷ 7 ∷ 18 ∷ 65544 ∷ 0 ∷ 32 ∷ 1 ∷ 0 ∷ []) (order 1 0 255 255) 8 start
      ≡ ended (report 8 0 0 0 0) start
  pub buffer_first :
      ordered_run (1 ∷ 3 ∷ 14 ∷ move) (order 3 2 1 0) 8 (at 1 2 0 3 7 0 0 (words 17))
      ≡ ended (report 9 0 0 0 0) (at 1 2 0 3 7 0 0 (words 17))
  -- ---- ends (document 02, Note 2): B0 4 and L0 4 end at 8
  -- put right where the orders' length is refused, and where the limit allows no step
  pub ends_with_orders : ordered_run example (take 15 crossed) 8 (with_buffer 4 99) ≡ ended (report 11 0 0 0 0) start
  pub ends_without_steps : ordered_run example crossed 0 (with_buffer 4 99) ≡ ended (report 0 0 0 0 0) start
  -- L0 = 7 inside a line: renewed by slot 0's store, and not by its fetch
  pub end_before_store : ordered_run (1 ∷ 3 ∷ 14 ∷ resize) (order 0 1 2 3) 1 start ≡ ended (report 0 0 0 0 1) start
  pub end_after_store : ordered_run (1 ∷ 3 ∷ 14 ∷ resize) (order 0 1 2 3) 2 start ≡ ended (report 0 0 0 0 2) (with_buffer 7 11)
  -- ---- any sequence of steps

  -- a length stored in a sequence that is not admissible
  pub end_in_any_sequence : in_place (line_of resize) (0 ∷ 1 ∷ 0 ∷ []) start ≡ with_buffer 7 11
  -- a store with nothing held
  pub nothing_held : in_place (line_of swap) (1 ∷ 3 ∷ []) start ≡ start
  -- a slot holds what it last fetched: R0 as slot 0 stored it
  pub fetched_again : in_place (line_of swap) (2 ∷ 0 ∷ 1 ∷ 2 ∷ 3 ∷ []) start ≡ at 2 2 0 7 7 0 0 (words 17)
  -- and holds it after its store
  pub stored_again_lem : in_place (line_of swap) (0 ∷ 1 ∷ 2 ∷ 3 ∷ 1 ∷ 3 ∷ []) start ≡ at 2 2 0 7 7 0 0 (words 17)
  -- bytes that name no step of the line
  pub no_step_named : in_place (line_of swap) (4 ∷ 5 ∷ 8 ∷ 9 ∷ 254 ∷ 255 ∷ []) start ≡ start
  -- K's load into J0 first: J's address is then past memory, where a word is fetched as 0 and never stored
  pub fetched_past : in_place (line_of chase) (2 ∷ 3 ∷ 0 ∷ 1 ∷ []) far_start ≡ at 1 2 0 1000 7 0 0 (words 1000)
  pub stored_past : in_place (line_of chase_store) (2 ∷ 3 ∷ 0 ∷ 1 ∷ []) far_start ≡ at 1 2 5 1000 7 0 0 (words 1000)

pub worked_orders : WorkedOrders
unfolding ordered_run ordered_run_on put_right ordered_from ordered_refusal refusal_of run_verdict check_of directory in_order line_by_line lines_from line_at reads
    reads_verdict slots_verdict read_slot read_fields read_words range_fits stored get put_alone renew put values asked asks holding condition_met
    fetch_live fetch_in store_in assign puts targets fetch_alu fetch_shifter fetch_arith fetch_buffer fetch_access store_alu store_shifter store_arith store_buffer store_access alu shifter rotate
    ialu address updated circular circular_sum wrap_around wrap overflows signed flag flag_word outcome step steps_from steps waits precedes once
    unused in_sequence admissible_by
worked_orders =
    record {
      both_lines = refl;
      inside_line_0 = refl;
      inside_line_1 = refl;
      first_step = refl;
      line_done = refl;
      no_step = refl;
      ample = refl;
      not_admissible = refl;
      line_1_not_admissible = refl;
      tested_at_first_step = refl;
      spent_before_test = refl;
      tail_used = refl;
      step_twice = refl;
      no_such_step = refl;
      store_first = refl;
      orders_short = refl;
      orders_long = refl;
      image_first = refl;
      lines_first = refl;
      no_lines = refl;
      no_lines_orders = refl;
      state_first = refl;
      buffer_first = refl;
      ends_with_orders = refl;
      ends_without_steps = refl;
      end_before_store = refl;
      end_after_store = refl;
      end_in_any_sequence = refl;
      nothing_held = refl;
      fetched_again = refl;
      stored_again_lem = refl;
      no_step_named = refl;
      fetched_past = refl;
      stored_past = refl;
    }

-- Document 02, Note 6: worked lines of loads through the data alignment buffers, each by computation of the definitions.
use mathlib.Core.Path.{◌≡◌, refl}
use mathlib.Core.Bool.{false}
use mathlib.Core.List.{List, [], ◌∷◌, ◌++◌}
use Prim.Native.Nat.{ℕ, ◌+◌, ◌*◌}
use lib.ListN.{length}
use Rattle.bits.specs.Signed.{signed, wrap, overflows}
use Rattle.bits.specs.Flags.{flag, flag_word, outcome}
use Rattle.word.specs.Alu.{alu}
use Rattle.word.specs.Addresses.{wrap_around, circular_sum, circular}
use Rattle.word.specs.Ialu.{address, updated}
use Rattle.slots.specs.Slots.{range_fits, read_words, read_fields}
use Rattle.slots.specs.Conditionals.{read_slot}
use Rattle.slots.specs.Stores.{stored}
use Rattle.line.specs.Rules.{slots_verdict, reads_verdict}
use Rattle.line.specs.Lines.{reads}
use Rattle.image.specs.Directory.{in_order, directory}
use Rattle.image.specs.Check.{line_at, lines_from, line_by_line, answer, check_of}
use Rattle.machine.specs.Machine.{Machine, machine, get, put_alone, renew, put, put_right, zeros}
use Rattle.machine.specs.Fetches.{values, asked, asks, holding, assign, puts, targets}
use Rattle.machine.specs.Conditions.{met, holds_in}
use Rattle.machine.specs.SlotConditions.{condition_met}
use Rattle.instructions.specs.Held.{padded}
use Rattle.instructions.specs.Fetching.{fetch_alu, fetch_access, fetch_dab_load}
use Rattle.instructions.specs.Storing.{store_alu, store_access, store_dab_load}
use Rattle.conditional.specs.LineSlots.{fetch_live, fetch_in, store_in}
use Rattle.refusals.specs.Refusals.{run_verdict}
use Rattle.execution.specs.PlainLine.{plain_line, refusal_of, line_of}
use Rattle.steps.specs.Steps.{step, steps_from, steps}
use Rattle.orders.specs.Orders.{waits, precedes, once, unused, in_sequence, admissible_by, admissible}
use Rattle.runs.specs.Plain.{ended, report, plain_from, plain_run_on, plain_run}
use Rattle.ordered.specs.Ordered.{ordered_from, ordered_run_on, ordered_run}
use Rattle.stepping.specs.OrderedLine.{ordered_refusal}
use Rattle.theorems.specs.Images.{slot_if, slot, if_keq, line, of4}

-- ---- lines

-- XR target and the three after it through X's buffer, by J0 and by K0; YR through Y's, by K0
abbrev x_by_j : ℕ → List ℕ
x_by_j t = slot 7 24 t 0 32 4

abbrev x_by_k : ℕ → List ℕ
x_by_k t = slot 8 24 t 0 32 4

abbrev y_by_k : ℕ → List ℕ
y_by_k t = slot 8 25 t 0 32 4

-- images of five and of three lines of one slot
abbrev five_lines : List ℕ → List ℕ → List ℕ → List ℕ → List ℕ → List ℕ
five_lines a b c d e =
    5 ∷ 11 ∷ 7 ∷ 18 ∷ 7 ∷ 25 ∷ 7 ∷ 32 ∷ 7 ∷ 39 ∷ 7 ∷ (a ++ b ++ c ++ d ++ e)

abbrev three_lines : List ℕ → List ℕ → List ℕ → List ℕ
three_lines a b c = 3 ∷ 7 ∷ 7 ∷ 14 ∷ 7 ∷ 21 ∷ 7 ∷ (a ++ b ++ c)

-- ---- machines, by the first registers of their files: all the others are 0

-- X's R, J0, K0, base and length of J's and K's first buffers, the flags of K, the words of both data alignment buffers, memory
abbrev at : List ℕ → ℕ → ℕ → ℕ → ℕ → ℕ → ℕ → ℕ → List ℕ → List ℕ → Machine
at r j0 k0 jb jl kb kl kz dab memory =
    machine
    record {
      r = padded 64 r;
      tr = zeros 64;
      thr = zeros 8;
      j = padded 31 (j0 ∷ []);
      k = padded 31 (k0 ∷ []);
      base = jb ∷ 0 ∷ 0 ∷ 0 ∷ kb ∷ 0 ∷ 0 ∷ 0 ∷ [];
      length = jl ∷ 0 ∷ 0 ∷ 0 ∷ kl ∷ 0 ∷ 0 ∷ 0 ∷ [];
      flags = 0 ∷ 0 ∷ 0 ∷ 0 ∷ 0 ∷ 0 ∷ 0 ∷ kz ∷ [];
      end = (jb + jl) ∷ 0 ∷ 0 ∷ 0 ∷ (kb + kl) ∷ 0 ∷ 0 ∷ 0 ∷ [];
      dab = padded 8 dab;
    }
    memory

-- ---- Listing 7-5 of document 003: input_buffer, here words 4 to 19, read from its third element on

abbrev input_buffer : List ℕ
input_buffer =
    0x00001111 ∷ 0x22223333 ∷ 0x44445555 ∷ 0x66667777 ∷ 0x88889999 ∷ 0xAAAABBBB ∷ 0xCCCCDDDD ∷ 0xEEEEFFFF
    ∷ 0x11110000 ∷ 0x33332222 ∷ 0x55554444 ∷ 0x77776666 ∷ 0x99998888 ∷ 0xBBBBAAAA ∷ 0xDDDDCCCC ∷ 0xFFFFEEEE ∷ []

-- X's R, J0 and X's buffer: JB0 = input_buffer, JL0 = 16
abbrev listing : List ℕ → ℕ → List ℕ → Machine
listing r j0 dab = at r j0 0 4 16 0 0 0 dab (1 ∷ 2 ∷ 3 ∷ 4 ∷ input_buffer)

pub record Listing75 : Type 0 where
  -- the first access primes the buffer: it delivers what that held, zeros here
  pub primed :
      plain_run (line (x_by_j 0)) (listing [] 6 [])
      ≡ ended (report 0 0 0 1 2)
      (listing (0 ∷ 0 ∷ 0x00001111 ∷ 0x22223333 ∷ []) 10 (0x00001111 ∷ 0x22223333 ∷ 0x44445555 ∷ 0x66667777 ∷ []))
  -- with two deliveries behind it
  pub delivered_twice :
      plain_run (three_lines (x_by_j 0) (x_by_j 0) (x_by_j 4)) (listing [] 6 [])
      ≡ ended (report 0 0 0 3 6)
      (listing
      (0x44445555 ∷ 0x66667777 ∷ 0x88889999 ∷ 0xAAAABBBB ∷ 0xCCCCDDDD ∷ 0xEEEEFFFF ∷ 0x11110000 ∷ 0x33332222 ∷ [])
      18 (0x11110000 ∷ 0x33332222 ∷ 0x55554444 ∷ 0x77776666 ∷ []))
  -- the whole listing: J0 wraps from 18 to 6 in the fourth access, so that the fifth ends in the first words
  pub whole :
      plain_run (five_lines (x_by_j 0) (x_by_j 0) (x_by_j 4) (x_by_j 8) (x_by_j 12)) (listing [] 6 [])
      ≡ ended (report 0 0 0 5 10)
      (listing
      (0x44445555 ∷ 0x66667777 ∷ 0x88889999 ∷ 0xAAAABBBB ∷ 0xCCCCDDDD ∷ 0xEEEEFFFF ∷ 0x11110000 ∷ 0x33332222
      ∷ 0x55554444 ∷ 0x77776666 ∷ 0x99998888 ∷ 0xBBBBAAAA ∷ 0xDDDDCCCC ∷ 0xFFFFEEEE ∷ 0x00001111 ∷ 0x22223333 ∷ [])
      10 (0x00001111 ∷ 0x22223333 ∷ 0x44445555 ∷ 0x66667777 ∷ []))
  -- the wrap alone: the quad of word 18 is read before its index wraps
  pub wraps :
      plain_run (line (x_by_j 8)) (listing [] 18 (0x11110000 ∷ 0x33332222 ∷ 0x55554444 ∷ 0x77776666 ∷ []))
      ≡ ended (report 0 0 0 1 2)
      (listing (padded 8 [] ++ (0x55554444 ∷ 0x77776666 ∷ 0x99998888 ∷ 0xBBBBAAAA ∷ []))
      6 (0x99998888 ∷ 0xBBBBAAAA ∷ 0xDDDDCCCC ∷ 0xFFFFEEEE ∷ []))

pub listing_7_5 : Listing75
unfolding plain_run plain_run_on put_right plain_from plain_line refusal_of run_verdict check_of directory in_order line_by_line lines_from line_at
    reads reads_verdict slots_verdict read_slot read_fields read_words range_fits stored get put_alone renew put values asks holding assign puts
    condition_met fetch_live fetch_in store_in fetch_dab_load store_dab_load circular circular_sum wrap_around wrap overflows signed
listing_7_5 = record { primed = refl; delivered_twice = refl; whole = refl; wraps = refl }

-- ---- each position of an index in its quad, in Table 7-3's words

-- Y's buffer and R are behind X's: old words 100 to 103 in X's buffer and 110 to 113 in Y's, new ones 204 to 207 at words 4 to 7
abbrev quads : List ℕ → ℕ → ℕ → ℕ → ℕ → List ℕ → Machine
quads r j0 k0 jl kz dab = at r j0 k0 4 jl 0 0 kz dab (0 ∷ 0 ∷ 0 ∷ 0 ∷ 204 ∷ 205 ∷ 206 ∷ 207 ∷ [])

abbrev old : List ℕ
old = 100 ∷ 101 ∷ 102 ∷ 103 ∷ 110 ∷ 111 ∷ 112 ∷ 113 ∷ []

-- X's buffer with the new quad, and Y's
abbrev kept_x : List ℕ
kept_x = 204 ∷ 205 ∷ 206 ∷ 207 ∷ 110 ∷ 111 ∷ 112 ∷ 113 ∷ []

abbrev kept_y : List ℕ
kept_y = 100 ∷ 101 ∷ 102 ∷ 103 ∷ 204 ∷ 205 ∷ 206 ∷ 207 ∷ []

pub record Positions : Type 0 where
  -- 01, 10 and 11, without a circular buffer; a quad that ends with memory is inside it, wherever the index stands in it
  pub one : plain_run (line (x_by_j 0)) (quads [] 5 0 0 0 old) ≡ ended (report 0 0 0 1 2) (quads (101 ∷ 102 ∷ 103 ∷ 204 ∷ []) 9 0 0 0 kept_x)
  pub two : plain_run (line (x_by_j 0)) (quads [] 6 0 0 0 old) ≡ ended (report 0 0 0 1 2) (quads (102 ∷ 103 ∷ 204 ∷ 205 ∷ []) 10 0 0 0 kept_x)
  pub three : plain_run (line (x_by_j 0)) (quads [] 7 0 0 0 old) ≡ ended (report 0 0 0 1 2) (quads (103 ∷ 204 ∷ 205 ∷ 206 ∷ []) 11 0 0 0 kept_x)
  -- K and Y: the words go to YR, and X's buffer is kept
  pub by_k :
      plain_run (line (y_by_k 4)) (quads [] 0 6 0 0 old)
      ≡ ended (report 0 0 0 1 2) (quads (padded 36 [] ++ (112 ∷ 113 ∷ 204 ∷ 205 ∷ [])) 0 10 0 0 kept_y)
  -- both blocks in one line, from one quad
  pub both :
      plain_run (line (x_by_j 0 ++ y_by_k 0)) (quads [] 5 7 0 0 old)
      ≡ ended (report 0 0 0 1 4)
      (quads (101 ∷ 102 ∷ 103 ∷ 204 ∷ (padded 28 [] ++ (113 ∷ 204 ∷ 205 ∷ 206 ∷ []))) 9 11 0 0
      (204 ∷ 205 ∷ 206 ∷ 207 ∷ 204 ∷ 205 ∷ 206 ∷ 207 ∷ []))
  -- 00 is refused with 17, with a length of 0 and with one of 4
  pub aligned : plain_run (line (x_by_j 0)) (quads [] 4 0 0 0 old) ≡ ended (report 17 0 0 0 0) (quads [] 4 0 0 0 old)
  pub aligned_circular : plain_run (line (x_by_j 0)) (quads [] 4 0 4 0 old) ≡ ended (report 17 0 0 0 0) (quads [] 4 0 4 0 old)
  -- a buffer of one quad: the index wraps to where it was
  pub one_quad :
      plain_run (line (x_by_j 0)) (quads [] 6 0 4 0 old)
      ≡ ended (report 0 0 0 1 2) (quads (102 ∷ 103 ∷ 204 ∷ 205 ∷ []) 6 0 4 0 kept_x)
  -- a slot whose condition fails causes no 17, and leaves the buffer
  pub failing : plain_run (line (slot_if 7 24 0 0 32 4 if_keq)) (quads [] 4 0 0 0 old) ≡ ended (report 0 0 0 1 2) (quads [] 4 0 0 0 old)
  pub live : plain_run (line (slot_if 7 24 0 0 32 4 if_keq)) (quads [] 4 0 0 1 old) ≡ ended (report 17 0 0 0 0) (quads [] 4 0 0 1 old)

pub positions : Positions
unfolding plain_run plain_run_on put_right plain_from plain_line refusal_of run_verdict check_of directory in_order line_by_line lines_from line_at
    reads reads_verdict slots_verdict read_slot read_fields read_words range_fits stored get put_alone renew put values asks holding assign puts
    condition_met met holds_in flag fetch_live fetch_in store_in fetch_dab_load store_dab_load circular circular_sum wrap_around wrap overflows
    signed
positions =
    record {
      one = refl;
      two = refl;
      three = refl;
      by_k = refl;
      both = refl;
      aligned = refl;
      aligned_circular = refl;
      one_quad = refl;
      failing = refl;
      live = refl;
    }

-- ---- the check

pub record CheckedLoads : Type 0 where
  pub passes : check_of (line (slot 7 24 28 3 32 4)) ≡ answer 0 0 0
  -- 3: a target that is no multiple of 4, or that has bits of a width or a file, an index above 3, a modifier in a register, op 26
  pub odd_target : check_of (line (slot 7 24 2 0 32 4)) ≡ answer 3 0 0
  pub wide_target : check_of (line (slot 7 24 (65536 * 4) 0 32 4)) ≡ answer 3 0 0
  pub index_four : check_of (line (slot 7 24 0 4 32 4)) ≡ answer 3 0 0
  pub register_modifier : check_of (line (slot 7 24 0 0 4 0)) ≡ answer 3 0 0
  pub op_26 : check_of (line (slot 8 26 0 0 32 4)) ≡ answer 3 0 0
  -- 16: a modifier that is not 4
  pub modifier_five : check_of (line (slot 7 24 0 0 32 5)) ≡ answer 16 0 0
  -- 16 comes before 4, though both slots are wide, and before two slots on a unit
  pub modifier_before_wide : check_of (line (slot 7 1 0 0 32 128 ++ slot 8 24 0 0 32 128)) ≡ answer 16 0 1
  pub modifier_before_unit : check_of (line (slot 7 1 0 0 32 1 ++ slot 7 24 0 0 32 8)) ≡ answer 16 0 1
  -- behind 3 and 15, in a later slot and in the same
  pub fields_before_modifier : check_of (line (slot 7 24 0 0 32 8 ++ slot 77 0 0 0 0 0)) ≡ answer 3 0 1
  pub condition_before_modifier : check_of (line (slot 7 24 0 0 32 8 ++ slot_if 8 1 0 0 32 1 13)) ≡ answer 15 0 1
  pub same_slot : check_of (line (slot_if 7 24 0 0 32 8 13)) ≡ answer 15 0 0
  -- the first of two
  pub first_modifier : check_of (line (slot 7 24 0 0 32 8 ++ slot 8 25 0 0 32 8)) ≡ answer 16 0 0
  -- 7: two through one buffer, one R loaded and computed, the index loaded; two through two buffers pass
  pub one_buffer : check_of (line (x_by_j 0 ++ x_by_k 4)) ≡ answer 7 0 1
  pub two_buffers : check_of (line (x_by_j 0 ++ y_by_k 4)) ≡ answer 0 0 0
  pub loaded_and_computed : check_of (line (x_by_j 0 ++ slot 1 1 3 4 5 0)) ≡ answer 7 0 1
  pub index_loaded : check_of (line (x_by_j 0 ++ slot 8 17 (65536 + 2 * 256) 0 32 1)) ≡ answer 7 0 1

pub checked_loads : CheckedLoads
unfolding check_of directory in_order line_by_line lines_from line_at reads reads_verdict slots_verdict read_slot read_fields read_words range_fits
    stored overflows signed
checked_loads =
    record {
      passes = refl;
      odd_target = refl;
      wide_target = refl;
      index_four = refl;
      register_modifier = refl;
      op_26 = refl;
      modifier_five = refl;
      modifier_before_wide = refl;
      modifier_before_unit = refl;
      fields_before_modifier = refl;
      condition_before_modifier = refl;
      same_slot = refl;
      first_modifier = refl;
      one_buffer = refl;
      two_buffers = refl;
      loaded_and_computed = refl;
      index_loaded = refl;
    }

-- ---- the running state's refusals, in their order

-- J0 and K0, K's base and length, and eight words of memory; X by J is slot 0, Y by K slot 1
abbrev eight : ℕ → ℕ → ℕ → ℕ → Machine
eight j0 k0 kb kl = at [] j0 k0 0 0 kb kl 0 [] (zeros 8)

abbrev IsRefused : ℕ → ℕ → ℕ → ℕ → ℕ → ℕ → Type 0
IsRefused code slot j0 k0 kb kl =
    plain_run (line (x_by_j 0 ++ y_by_k 0)) (eight j0 k0 kb kl) ≡ ended (report code 0 slot 0 0) (eight j0 k0 kb kl)

pub record RefusedLoads : Type 0 where
  -- 9 in slot 1 comes before slot 0's index, which is aligned and past memory
  pub outside : IsRefused 9 1 8 1 4 4
  -- then 17 in slot 0, which is 8 too, or in slot 1 behind an 8
  pub aligned : IsRefused 17 0 8 5 4 4
  pub aligned_later : IsRefused 17 1 9 4 4 4
  -- then 8: the quad of word 9
  pub past : IsRefused 8 0 9 5 4 4
  -- 9: a length below 4, a length and a base that are no multiples of 4
  pub short_length : IsRefused 9 1 5 5 4 2
  pub odd_length : IsRefused 9 1 5 1 0 6
  pub odd_base : IsRefused 9 1 5 3 2 4

pub refused_loads : RefusedLoads
unfolding plain_run plain_run_on put_right plain_from plain_line refusal_of run_verdict check_of directory in_order line_by_line lines_from line_at
    reads reads_verdict slots_verdict read_slot read_fields read_words range_fits stored get put_alone renew put values asks holding assign puts
    condition_met fetch_live fetch_in store_in fetch_dab_load store_dab_load circular circular_sum wrap_around wrap overflows signed
refused_loads =
    record {
      outside = refl;
      aligned = refl;
      aligned_later = refl;
      past = refl;
      short_length = refl;
      odd_length = refl;
      odd_base = refl;
    }

-- ---- orders

-- beside the load into XR3:0, K stores K1 to word 7, the last of the quad; X's ALU passes R2 to R8
abbrev store_beside : List ℕ
store_beside = x_by_j 0 ++ slot 8 20 (65536 + 3 * 256 + 1) 31 32 7

abbrev pass_beside : List ℕ
pass_beside = x_by_j 0 ++ slot 1 9 8 2 0 0

pub record OrderedLoads : Type 0 where
  -- the whole quad is read, for the buffer keeps it: also a word that is not delivered
  pub quad_stored_first : admissible (line_of store_beside) (quads [] 5 0 0 0 old) (of4 2 3 0 1) ≡ false
  pub quad_stored_after :
      ordered_run (line store_beside) (of4 2 0 3 1) 4 (quads [] 5 0 0 0 old)
      ≡ ended (report 0 0 0 1 4) (at (101 ∷ 102 ∷ 103 ∷ 204 ∷ []) 9 0 4 0 0 0 0 kept_x (0 ∷ 0 ∷ 0 ∷ 0 ∷ 204 ∷ 205 ∷ 206 ∷ 0 ∷ []))
  -- R2 is read before it is loaded
  pub loaded_first : admissible (line_of pass_beside) (quads (1 ∷ 2 ∷ 3 ∷ []) 5 0 0 0 old) (of4 0 1 2 3) ≡ false
  pub loaded_after :
      ordered_run (line pass_beside) (of4 0 2 1 3) 4 (quads (1 ∷ 2 ∷ 3 ∷ []) 5 0 0 0 old)
      ≡ ended (report 0 0 0 1 4) (quads (101 ∷ 102 ∷ 103 ∷ 204 ∷ 0 ∷ 0 ∷ 0 ∷ 0 ∷ 3 ∷ []) 9 0 0 0 kept_x)
  -- a limit between its fetch and its store: nothing is kept yet
  pub fetched_only :
      ordered_run (line (x_by_j 0)) (0 ∷ 1 ∷ 255 ∷ 255 ∷ 255 ∷ 255 ∷ 255 ∷ 255 ∷ []) 1 (quads [] 5 0 0 0 old)
      ≡ ended (report 0 0 0 0 1) (quads [] 5 0 0 0 old)

pub ordered_loads : OrderedLoads
unfolding plain_line refusal_of run_verdict ordered_run ordered_run_on put_right ordered_from ordered_refusal check_of directory in_order line_by_line
    lines_from line_at reads reads_verdict slots_verdict read_slot read_fields read_words range_fits stored get put_alone renew put values asked
    asks holding assign puts targets condition_met fetch_live fetch_in store_in fetch_alu store_alu alu outcome flag_word fetch_access
    store_access address updated fetch_dab_load store_dab_load circular circular_sum wrap_around wrap overflows signed flag step steps_from steps
    waits precedes once unused in_sequence admissible_by
ordered_loads =
    record {
      quad_stored_first = refl;
      quad_stored_after = refl;
      loaded_first = refl;
      loaded_after = refl;
      fetched_only = refl;
    }

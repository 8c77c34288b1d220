-- Worked images with the answer of the check call (code, line, slot), each by computation of its definition.
use mathlib.Core.Path.{◌≡◌, refl}
use mathlib.Core.List.{[], ◌∷◌, ◌++◌}
use Prim.Native.Nat.{◌+◌}
use Rattle.bits.specs.Signed.{signed, overflows}
use Rattle.slots.specs.Slots.{range_fits, read_words, read_fields}
use Rattle.slots.specs.Conditionals.{read_slot}
use Rattle.slots.specs.Stores.{stored}
use Rattle.line.specs.Rules.{slots_verdict, reads_verdict}
use Rattle.image.specs.Directory.{in_order, directory}
use Rattle.line.specs.Lines.{reads}
use Rattle.image.specs.Check.{line_at, lines_from, line_by_line, answer, check_of}
use Rattle.theorems.specs.Images.{slot_if, slot, registers, line}

pub record WorkedImages : Type 0 where
  -- ---- code 0
  -- 01's example of `linerun`: J0 = J0 + 5
  pub linerun_passes : check_of (1 ∷ 3 ∷ 7 ∷ 7 ∷ 1 ∷ 0 ∷ 0 ∷ 32 ∷ 5 ∷ 0 ∷ []) ≡ answer 0 0 0
  -- n = 0 passes, and words in gaps are ignored
  pub no_lines_pass : check_of (0 ∷ 9 ∷ []) ≡ answer 0 0 0
  -- 127 and -128 are not wide
  pub narrow_pass : check_of (line (slot 7 1 0 0 32 127 ++ slot 8 1 0 0 32 4294967168)) ≡ answer 0 0 0
  -- DESPREAD beside a load of its THR pair
  pub load_wins : check_of (line (slot 5 11 0 4 2 0 ++ slot 9 2 2 8 0 0)) ≡ answer 0 0 0
  -- two slots for X beside two IALU slots that load XR
  pub loads_for_x_pass :
      check_of (line (slot 1 1 0 4 5 0 ++ slot 3 1 1 4 5 0
      ++ slot 7 17 (registers 1 0 2) 0 32 1 ++ slot 8 17 (registers 1 0 3) 0 32 1))
      ≡ answer 0 0 0
  -- a load without update into its own index
  pub own_index_kept : check_of (line (slot 7 18 (registers 1 2 0) 0 32 1)) ≡ answer 0 0 0
  -- a quad of XR that ends in register 31
  pub last_quad_of_x : check_of (line (slot 7 17 (registers 4 0 28) 0 32 4)) ≡ answer 0 0 0
  -- ---- code 2: the directory
  -- no word at all
  pub empty_image : check_of ([]) ≡ answer 2 0 0
  -- pairs past the end: 1+2n is exact for every n
  pub pairs_past_the_end : check_of (4294967295 ∷ []) ≡ answer 2 0 0
  -- an offset below 1+2n
  pub region_in_directory : check_of (1 ∷ 2 ∷ 7 ∷ 7 ∷ 1 ∷ 0 ∷ 0 ∷ 32 ∷ 5 ∷ 0 ∷ []) ≡ answer 2 0 0
  -- the last word is missing
  pub region_past_the_end : check_of (1 ∷ 3 ∷ 7 ∷ 7 ∷ 1 ∷ 0 ∷ 0 ∷ 32 ∷ 5 ∷ []) ≡ answer 2 0 0
  -- offset and length add up to 2^32
  pub sum_is_exact : check_of (1 ∷ 4294967289 ∷ 7 ∷ []) ≡ answer 2 0 0
  -- a length that is no whole slot, as of a slot without its condition
  pub broken_slot : check_of (line (7 ∷ 1 ∷ 0 ∷ 0 ∷ 32 ∷ 5 ∷ [])) ≡ answer 2 0 0
  -- a region that starts before the previous ends, behind a line that breaks rule 3
  pub directory_before_lines : check_of (2 ∷ 5 ∷ 7 ∷ 11 ∷ 7 ∷ (slot 77 0 0 0 0 0 ++ slot 7 1 0 0 32 5)) ≡ answer 2 0 0
  -- ---- code 3: slots that cannot be read
  -- an unknown unit
  pub unknown_unit : check_of (line (slot 11 1 0 0 0 0)) ≡ answer 3 0 0
  -- imm without second 32
  pub unused_imm : check_of (line (slot 7 1 0 0 3 5)) ≡ answer 3 0 0
  -- a J quad that holds register 31
  pub quad_with_31 : check_of (line (slot 7 17 (registers 4 2 28) 0 32 4)) ≡ answer 3 0 0
  -- two slots on a unit behind an unreadable third: each rule is tested over the whole line
  pub third_unreadable : check_of (line (slot 1 1 0 1 2 0 ++ slot 1 1 3 1 2 0 ++ slot 77 0 0 0 0 0)) ≡ answer 3 0 2
  -- ---- code 15: conditions
  -- 12 is the last condition, and 13 is above it
  pub last_condition : check_of (line (slot_if 7 1 0 0 32 5 12)) ≡ answer 0 0 0
  pub above_conditions : check_of (line (slot_if 7 1 0 0 32 5 13)) ≡ answer 15 0 0
  -- the first slot whose condition is above 12
  pub first_bad_condition :
      check_of (line (slot 1 1 0 1 2 0 ++ slot_if 3 1 3 1 2 0 4294967295 ++ slot_if 7 1 0 0 32 5 13)) ≡ answer 15 0 1
  -- 3 over the whole line comes first, in a later slot and in the same
  pub fields_before_condition :
      check_of (line (slot_if 1 1 0 1 2 0 13 ++ slot 3 1 3 1 2 0 ++ slot 77 0 0 0 0 0)) ≡ answer 3 0 2
  pub fields_of_the_same_slot : check_of (line (slot_if 77 0 0 0 0 0 13)) ≡ answer 3 0 0
  -- 15 comes before 4, and before two slots on one unit
  pub condition_before_wide : check_of (line (slot 7 1 0 0 32 128 ++ slot_if 8 1 0 0 32 128 13)) ≡ answer 15 0 1
  pub condition_before_unit : check_of (line (slot 1 1 0 1 2 0 ++ slot 1 1 3 1 2 0 ++ slot_if 7 1 0 0 32 5 13)) ≡ answer 15 0 2
  -- rules 4 to 7 count a slot as live, whatever its condition
  pub both_conditional : check_of (line (slot_if 7 1 0 0 32 5 1 ++ slot_if 8 17 (registers 1 2 0) 0 32 1 4)) ≡ answer 7 0 1
  -- and rule 7's THR priority does not ask it
  pub conditional_load_wins : check_of (line (slot 5 11 0 4 2 0 ++ slot_if 9 2 2 8 0 0 4)) ≡ answer 0 0 0
  -- ---- code 4: positions
  -- 128 and -129: a second wide slot, though four positions are enough
  pub wide_and_wide : check_of (line (slot 7 1 0 0 32 128 ++ slot 8 1 0 0 32 4294967167)) ≡ answer 4 0 1
  -- the first of four is wide
  pub wide_of_four :
      check_of (line (slot 7 1 0 0 32 128 ++ slot 1 1 0 1 2 0 ++ slot 3 1 3 1 2 0 ++ slot 2 1 0 1 2 0))
      ≡ answer 4 0 3
  -- two wide slots on one unit: rule 4 comes first
  pub wide_before_unit : check_of (line (slot 7 1 0 0 32 128 ++ slot 7 1 1 0 32 128)) ≡ answer 4 0 1
  -- ---- code 5: units
  -- the third slot is on the unit of the first
  pub one_unit : check_of (line (slot 1 1 0 1 2 0 ++ slot 7 1 0 0 32 5 ++ slot 1 1 3 1 2 0)) ≡ answer 5 0 2
  -- the same in line 1
  pub second_line :
      check_of (2 ∷ 5 ∷ 7 ∷ 12 ∷ 14 ∷ (slot 7 1 0 0 32 5 ++ (slot 8 1 0 0 32 5 ++ slot 8 1 1 0 32 5)))
      ≡ answer 5 1 1
  -- ---- code 6: blocks
  -- ALU, shifter and transfer of X
  pub three_for_x : check_of (line (slot 1 1 0 1 2 0 ++ slot 3 1 3 1 2 0 ++ slot 9 1 0 4 0 0)) ≡ answer 6 0 2
  -- ---- code 7: places
  -- an updating load into its own index
  pub own_index : check_of (line (slot 7 17 (registers 1 2 0) 0 32 1)) ≡ answer 7 0 0
  -- a K load into J0 beside J's own result
  pub loaded_and_computed : check_of (line (slot 7 1 0 0 32 5 ++ slot 8 17 (registers 1 2 0) 0 32 1)) ≡ answer 7 0 1
  -- R imm of CLU op 12 beside an ALU result
  pub old_word_and_result : check_of (line (slot 5 12 0 4 0 9 ++ slot 1 1 9 1 2 0)) ≡ answer 7 0 1
  -- the second R of CLU op 13's pair
  pub second_old_word : check_of (line (slot 5 13 0 4 0 8 ++ slot 1 1 9 1 2 0)) ≡ answer 7 0 1

pub worked_images : WorkedImages
unfolding check_of directory in_order line_by_line lines_from line_at reads reads_verdict slots_verdict read_slot read_fields read_words
    range_fits
    stored signed overflows
worked_images =
    record {
      linerun_passes = refl;
      no_lines_pass = refl;
      narrow_pass = refl;
      load_wins = refl;
      loads_for_x_pass = refl;
      own_index_kept = refl;
      last_quad_of_x = refl;
      empty_image = refl;
      pairs_past_the_end = refl;
      region_in_directory = refl;
      region_past_the_end = refl;
      sum_is_exact = refl;
      broken_slot = refl;
      directory_before_lines = refl;
      unknown_unit = refl;
      unused_imm = refl;
      quad_with_31 = refl;
      third_unreadable = refl;
      last_condition = refl;
      above_conditions = refl;
      first_bad_condition = refl;
      fields_before_condition = refl;
      fields_of_the_same_slot = refl;
      condition_before_wide = refl;
      condition_before_unit = refl;
      both_conditional = refl;
      conditional_load_wins = refl;
      wide_and_wide = refl;
      wide_of_four = refl;
      wide_before_unit = refl;
      one_unit = refl;
      second_line = refl;
      three_for_x = refl;
      own_index = refl;
      loaded_and_computed = refl;
      old_word_and_result = refl;
      second_old_word = refl;
    }

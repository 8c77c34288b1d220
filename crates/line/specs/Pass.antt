-- Serves the code only; a reader of 01 can skip it.
-- Rules 3, 15, 16 and 4 to 7 in one pass over the slots of a line. proofs/LineVerdicts.antt shows that its verdict is that of Rules.
use Rattle.std.specs.Prelude.{ℕ, ◌+◌, ◌-◌, ◌*◌, ◌/◌, ◌%◌, List, [], ◌∷◌, Bool, true, false, ◌||◌, eqb}
use Rattle.std.specs.Prelude.{Option, Some, None, Result, Ok, Err}
use Rattle.bits.specs.Pick.{pick}
use Rattle.slots.specs.declared.slot.Slot.{Slot}
use Rattle.slots.specs.declared.slot.Slot.TheVariants.{Alu, Shifter, Trellis, Tmax, Despread, Transfer}
use Rattle.slots.specs.declared.slot.Slot.TheVariants.{Arith, Buffer, Access, DabLoad}
use Rattle.slots.specs.declared.conditional_slot.Conditional.{Conditional}
use Rattle.slots.specs.declared.slot.SlotRefusal.{SlotRefusal}
use Rattle.slots.specs.declared.slot.SlotRefusal.TheVariants.{BadFields, BadCondition, BadModifier}
use Rattle.sets.specs.PlaceSets.{nothing, joined, meets}
use Rattle.sets.specs.StoredSets.{registers_stored}
use Rattle.sets.specs.declared.place_set.PlaceSet.{PlaceSet}
use Rattle.sets.specs.declared.stored.Stored.{Stored}
use Rattle.line.specs.Rules.{unit_of, wide_immediate, verdict}
use Rattle.line.specs.declared.usage.Usage.{Usage}
use Rattle.line.specs.declared.rules.ByRule.{ByRule}
use Rattle.line.specs.declared.rules.Seen.{Seen}
use Rattle.line.specs.declared.rules.Rule.{Rule}
use Rattle.line.specs.declared.rules.Broken.{Broken}
use Rattle.line.specs.Verdicts.{Verdict}

-- ---- what is kept of a slot

-- four counts in one word, a byte each: positions, wide slots, slots for X, slots for Y
abbrev pub count_word : ℕ → ℕ → ℕ → ℕ → ℕ
count_word positions wide x y = positions + 256 * wide + 65536 * x + 16777216 * y

-- a slot for block b; an IALU slot with a second operand
unfoldable pub block_counts : ℕ → ℕ
block_counts b = pick (eqb (b % 2) 0) (count_word 1 0 1 0) (count_word 1 0 0 1)

unfoldable pub ialu_counts : ℕ → ℕ → ℕ
ialu_counts s i = pick (wide_immediate s i) (count_word 2 1 0 0) (count_word 1 0 0 0)

unfoldable pub slot_counts : Slot → ℕ
slot_counts (Alu b op t f s) = block_counts b
slot_counts (Shifter b op t f s) = block_counts b
slot_counts (Trellis b op t f s q) = block_counts b
slot_counts (Tmax b op t f s) = block_counts b
slot_counts (Despread b op t f p o) = block_counts b
slot_counts (Transfer b op t f) = block_counts b
slot_counts (Arith ialu op t f s i) = ialu_counts s i
slot_counts (Buffer ialu op t f) = count_word 1 0 0 0
slot_counts (Access ialu op w file n f s i) = ialu_counts s i
slot_counts (DabLoad ialu b t f i) = ialu_counts 32 i

-- the registers that it stores are taken as if every THR pair were loaded
abbrev pub usage_of : ℕ → Slot → Usage
usage_of unit x = record { unit = unit; counts = slot_counts x; stored = registers_stored true x }

-- ---- what is kept of the slots so far

-- the counts of no slot: a count above its limit reaches its byte's top bit
abbrev pub no_counts : ℕ
no_counts = count_word (127 - 4) (127 - 1) (127 - 2) (127 - 2)

abbrev pub none_seen : Seen
none_seen =
    record {
      slots = 0;
      counts = no_counts;
      a = 0;
      b = 0;
      c = 0;
      stored = nothing;
      noted = record { condition = None; modifier = None; positions = None; units = None; blocks = None; registers = None };
    }

-- rules 4 and 6: a count that reached its top bit
abbrev pub over : ℕ → ℕ → Bool
over bit counts = eqb (counts / bit % 2) 1

abbrev pub crowded : ℕ → Bool
crowded counts = over 128 counts || over (256 * 128) counts

abbrev pub block_full : ℕ → Bool
block_full counts = over (65536 * 128) counts || over (16777216 * 128) counts

-- rule 5: the unit is one of the last three; 0 is no unit
abbrev pub unit_again : Seen → ℕ → Bool
unit_again seen unit = eqb seen.a unit || eqb seen.b unit || eqb seen.c unit

-- rule 7: a register of a set stored again, or one stored twice
unfoldable pub stores_again : PlaceSet → Stored → Bool
stores_again set x = meets set x.set || x.twice

-- the first slot that breaks a rule, if any
abbrev pub note : {A : Type 0} → Option A → A → Bool → Option A
note (Some first) s breaks = Some first
note None s breaks = pick breaks (Some s) None

unfoldable pub note_all : ByRule (Option ℕ) → ℕ → ByRule Bool → ByRule (Option ℕ)
note_all noted s breaks =
    record {
      condition = note noted.condition s breaks.condition;
      modifier = note noted.modifier s breaks.modifier;
      positions = note noted.positions s breaks.positions;
      units = note noted.units s breaks.units;
      blocks = note noted.blocks s breaks.blocks;
      registers = note noted.registers s breaks.registers;
    }

-- condition: it is above 12; modifier: it does not fit
unfoldable pub see : Seen → Usage → Bool → Bool → Seen
see seen x condition modifier =
    record {
      slots = seen.slots + 1;
      counts = seen.counts + x.counts;
      a = seen.b;
      b = seen.c;
      c = x.unit;
      stored = joined seen.stored x.stored.set;
      noted =
          note_all seen.noted seen.slots
          (record {
            condition = condition;
            modifier = modifier;
            positions = crowded (seen.counts + x.counts);
            units = unit_again seen x.unit;
            blocks = block_full (seen.counts + x.counts);
            registers = stores_again seen.stored x.stored;
          });
    }

-- ---- the verdict

-- what is noted for a rule, as the check's answer, and as a verdict before others
abbrev pub unbroken : Option ℕ → Rule → Result (Unit {0}) Broken
unbroken (Some s) rule = Err (record { rule = rule; slot = s })
unbroken None rule = Ok tt

abbrev pub refuse_at : ℕ → Option ℕ → Verdict → Verdict
refuse_at code (Some s) otherwise = verdict code s
refuse_at code None otherwise = otherwise

unfoldable pub chosen : ByRule (Option ℕ) → Verdict
chosen noted =
    refuse_at 15 noted.condition
    (refuse_at 16 noted.modifier
    (refuse_at 4 noted.positions
    (refuse_at 5 noted.units
    (refuse_at 6 noted.blocks
    (refuse_at 7 noted.registers (verdict 0 0))))))

-- where a slot is noted, c for 15 or m for 16, only rules 3, 15 and 16 matter of the slots from number s on
abbrev pub refused_read : Option ℕ → Option ℕ → ℕ → List (Result Conditional SlotRefusal) → Verdict
refused_read c m s [] = refuse_at 15 c (refuse_at 16 m (verdict 0 0))
refused_read c m s (Ok x ∷ rs) = refused_read c m (s + 1) rs
refused_read c m s (Err BadFields ∷ rs) = verdict 3 s
refused_read c m s (Err BadCondition ∷ rs) = refused_read (note c s true) m (s + 1) rs
refused_read c m s (Err BadModifier ∷ rs) = refused_read c (note m s true) (s + 1) rs

-- what is read of a line, one slot after another: one with bad fields ends the pass, since rule 3 comes first
unfoldable pub pass : Seen → List (Result Conditional SlotRefusal) → Verdict
pass seen [] = chosen seen.noted
pass seen (Ok x ∷ rs) = pass (see seen (usage_of (unit_of x.slot) x.slot) false false) rs
pass seen (Err BadFields ∷ rs) = verdict 3 seen.slots
pass seen (Err BadCondition ∷ rs) =
    refused_read (note seen.noted.condition seen.slots true) seen.noted.modifier (seen.slots + 1) rs
pass seen (Err BadModifier ∷ rs) =
    refused_read seen.noted.condition (note seen.noted.modifier seen.slots true) (seen.slots + 1) rs

-- Serves the code only; a reader of 01 can skip it.
-- The places that a slot reads, and those that it stores, as a set of registers and flag groups and a range of memory words.
-- proofs/Covered.antt shows that, of a slot that was read, they are the places that its fetch asks and its store puts values in.
use Rattle.std.specs.Prelude.{ℕ, ◌+◌, Bool, true, false, not, ◌&&◌, ◌||◌, List, eqb, ltb, leb}
use Rattle.std.specs.Int.Bits.{bit_or}
use Rattle.bits.specs.Pick.{pick}
use Rattle.bits.specs.Ops.{is_store, is_circular, despread_words}
use Rattle.word.specs.Ialu.{address}
use Rattle.word.specs.Addresses.{quad_at}
use Rattle.slots.specs.Places.{THR, Base, Length, Flags}
use Rattle.slots.specs.Slots.{between}
use Rattle.slots.specs.Conditionals.{condition_fits}
use Rattle.slots.specs.declared.conditional_slot.LineSlot.{LineSlot}
use Rattle.slots.specs.declared.slot.Slot.{Slot}
use Rattle.slots.specs.declared.slot.Slot.TheVariants.{Alu, Shifter, Trellis, Tmax, Despread, Transfer}
use Rattle.slots.specs.declared.slot.Slot.TheVariants.{Arith, Buffer, Access, DabLoad}
use Rattle.machine.specs.SlotConditions.{condition_ialu}
use Rattle.sets.specs.PlaceSets.{bit_from, words, nothing, joined, meets, bits_at, side_bits, four_bits}
use Rattle.sets.specs.StoredSets.{index_bits, dab_bits, stored_set}
use Rattle.sets.specs.Ranges.{range, no_words, overlap}
use Rattle.sets.specs.declared.place_set.PlaceSet.{PlaceSet}
use Rattle.sets.specs.declared.range.Range.{Range}
use Rattle.instructions.specs.Held.{index, modifier, len}
use Rattle.conditional.specs.LineSlots.{live, loaded}
use Rattle.instructions.specs.StoredWords.{range_stored}
use Rattle.footprints.specs.declared.footprint.Footprint.{Footprint}

abbrev pub footprint : PlaceSet → Range → Footprint
footprint s r = record { set = s; words = r }

abbrev pub registers : PlaceSet → Footprint
registers s = footprint s no_words

-- the flag group of a unit, by the unit's number for X or J less 1
abbrev pub flag_bits : ℕ → ℕ → ℕ
flag_bits u b = bits_at (bit_from Flags + (u + b)) 1

-- two slots with a place in common
unfoldable pub footprints_meet : Footprint → Footprint → Bool
footprints_meet p q = meets p.set q.set || overlap p.words q.words

-- ---- what a slot reads

-- R first, and R second where it is used
unfoldable pub reads_pair : ℕ → ℕ → ℕ → Bool → PlaceSet
reads_pair b f s used = words (bit_or (side_bits b f 1) (side_bits b s (pick used 1 0))) 0 0 0

unfoldable pub reads_trellis : ℕ → ℕ → ℕ → ℕ → PlaceSet
reads_trellis b f s q = words (side_bits b q 4) (bit_or (side_bits b f 2) (side_bits b s 2)) 0 (flag_bits 4 b)

unfoldable pub reads_tmax : ℕ → ℕ → ℕ → PlaceSet
reads_tmax b f s = words 0 (bit_or (side_bits b f 1) (side_bits b s 1)) 0 (flag_bits 4 b)

-- the high register of the THR pair only where its shift is stored
unfoldable pub reads_despread : ℕ → ℕ → ℕ → ℕ → ℕ → Bool → PlaceSet
reads_despread b op t f p loaded =
    words (side_bits b f 4) (side_bits b t (despread_words op)) 0
    (bit_or (four_bits (bit_from THR) b p (pick loaded 1 2)) (flag_bits 4 b))

-- 1 and 2 read R first, 2 the next R too; 3 reads TR first
unfoldable pub reads_transfer : ℕ → ℕ → ℕ → PlaceSet
reads_transfer b op f =
    words (side_bits b f (pick (eqb op 3) 0 (pick (eqb op 2) 2 1))) (side_bits b f (pick (eqb op 3) 1 0)) 0 0

-- first, and second where it is used
unfoldable pub operand_bits : ℕ → ℕ → ℕ → Bool → ℕ
operand_bits ialu f s used = bit_or (index_bits ialu f false) (index_bits ialu s (not used))

-- the length of a circular op, and the base where the length held, l, is not 0
unfoldable pub buffer_bits : ℕ → ℕ → Bool → ℕ → ℕ
buffer_bits ialu f circular l =
    bit_or (four_bits (bit_from Length) ialu f (pick circular 1 0)) (four_bits (bit_from Base) ialu f (pick (not (eqb l 0)) 1 0))

unfoldable pub reads_arith : ℕ → ℕ → ℕ → ℕ → ℕ → PlaceSet
reads_arith ialu op f s l =
    words 0 0 (operand_bits ialu f s (not (between 8 12 op) && not (eqb s 32))) (buffer_bits ialu f (is_circular op) l)

-- with the registers that a store moves, of R or of J and K
unfoldable pub reads_access : ℕ → ℕ → ℕ → ℕ → PlaceSet
reads_access file moved operands buffers =
    words (pick (ltb file 2) moved 0) 0 (bit_or operands (pick (ltb file 2) 0 moved)) buffers

-- the index, its circular buffer with the length held, l, and the data alignment buffer of a block
unfoldable pub reads_dab_load : ℕ → ℕ → ℕ → ℕ → PlaceSet
reads_dab_load ialu b f l = words 0 0 (index_bits ialu f false) (bit_or (buffer_bits ialu f true l) (dab_bits b))

-- v: the words that it holds; loaded: the line loads the THR pair that it shifts
unfoldable pub slot_reads : Bool → Slot → List ℕ → Footprint
slot_reads loaded (Alu b op t f s) v = registers (reads_pair b f s (not (between 8 10 op)))
slot_reads loaded (Shifter b op t f s) v = registers (reads_pair b f s (not (leb 8 op)))
slot_reads loaded (Trellis b op t f s q) v = registers (reads_trellis b f s q)
slot_reads loaded (Tmax b op t f s) v = registers (reads_tmax b f s)
slot_reads loaded (Despread b op t f p o) v = registers (reads_despread b op t f p loaded)
slot_reads loaded (Transfer b op t f) v = registers (reads_transfer b op f)
slot_reads loaded (Arith ialu op t f s i) v = registers (reads_arith ialu op f s (len v))
slot_reads loaded (Buffer ialu op t f) v = registers (words 0 0 (index_bits ialu f false) 0)
slot_reads loaded (Access ialu op w file n f s i) v =
    footprint (reads_access file (side_bits file n (pick (is_store op) w 0)) (operand_bits ialu f s (not (eqb s 32)))
    (buffer_bits ialu f (is_circular op) (len v))) (range (address op (index v) (modifier v)) (pick (is_store op) 0 w))
slot_reads loaded (DabLoad ialu b t f i) v = footprint (reads_dab_load ialu b f (len v)) (range (quad_at (index v)) 4)

-- ---- what a slot stores: registers, the flag group of its unit, memory words

-- registers and a flag group
abbrev pub with_flags : ℕ → PlaceSet → PlaceSet
with_flags flags s = joined s (words 0 0 0 flags)

unfoldable pub flags_stored : Slot → ℕ
flags_stored (Alu b op t f s) = flag_bits 0 b
flags_stored (Shifter b op t f s) = flag_bits 2 b
flags_stored (Trellis b op t f s q) = flag_bits 4 b
flags_stored (Tmax b op t f s) = flag_bits 4 b
flags_stored (Despread b op t f p o) = flag_bits 4 b
flags_stored (Arith ialu op t f s i) = flag_bits 6 ialu
flags_stored (Transfer b op t f) = 0
flags_stored (Buffer ialu op t f) = 0
flags_stored (Access ialu op w file n f s i) = 0
flags_stored (DabLoad ialu b t f i) = 0

unfoldable pub slot_stores : Bool → Slot → List ℕ → Footprint
slot_stores loaded x v = footprint (with_flags (flags_stored x) (stored_set loaded x)) (range_stored x v)

-- ---- a slot in its line, under its condition (document 02, Note 5)

-- the flag group that a condition reads
unfoldable pub condition_bits : ℕ → ℕ
condition_bits c = pick (eqb c 0) 0 (pick (condition_fits c) (flag_bits 6 (condition_ialu c)) 0)

-- that group before other places
unfoldable pub before : ℕ → Footprint → Footprint
before c x = footprint (joined (words 0 0 0 (condition_bits c)) x.set) x.words

-- v: the words that it holds. The condition's group, and of a live slot its load's and what its family reads
unfoldable pub reads_in : LineSlot → List ℕ → Footprint
reads_in x v =
    before x.condition (pick (live v) (before x.load (slot_reads (loaded v) x.slot v)) (registers nothing))

unfoldable pub stores_in : Slot → List ℕ → Footprint
stores_in x v = pick (live v) (slot_stores (loaded v) x v) (registers nothing)

-- Serves the code only; a reader of 01 can skip it.
-- The set of registers that a slot stores, as the code makes it for any fields. proofs/StoredSets.antt shows that it is the set
-- of what `stored` lists, for a slot that was read.
use Rattle.std.specs.Prelude.{ℕ, Bool, false, not, ◌||◌, ltb, eqb}
use Rattle.std.specs.Int.Bits.{bit_and, bit_or}
use Rattle.bits.specs.Pick.{pick}
use Rattle.bits.specs.Ops.{is_store, keeps_index, despread_words, old_words}
use Rattle.slots.specs.Places.{THR, Base, Length, Dab}
use Rattle.slots.specs.Families.{on_access}
use Rattle.slots.specs.declared.slot.Slot.{Slot}
use Rattle.slots.specs.declared.slot.Slot.TheVariants.{Alu, Shifter, Trellis, Tmax, Despread, Transfer}
use Rattle.slots.specs.declared.slot.Slot.TheVariants.{Arith, Buffer, Access, DabLoad}
use Rattle.sets.specs.PlaceSets.{bit_from, words, side_bits, four_bits}
use Rattle.sets.specs.declared.place_set.PlaceSet.{PlaceSet}
use Rattle.sets.specs.declared.stored.Stored.{Stored}

-- ---- the families that have a block

-- n registers of R, or of TR
abbrev pub stored_r : ℕ → ℕ → ℕ → PlaceSet
stored_r b t n = words (side_bits b t n) 0 0 0

abbrev pub stored_tr : ℕ → ℕ → ℕ → PlaceSet
stored_tr b t n = words 0 (side_bits b t n) 0 0

-- loaded: the line loads the THR pair that a DESPREAD shifts
unfoldable pub stored_despread : Bool → ℕ → ℕ → ℕ → ℕ → ℕ → PlaceSet
stored_despread loaded b op t p o =
    words (side_bits b o (old_words op)) (side_bits b t (despread_words op)) 0 (four_bits (bit_from THR) b p (pick loaded 0 2))

unfoldable pub stored_transfer : ℕ → ℕ → ℕ → PlaceSet
stored_transfer b op t =
    words (side_bits b t (pick (eqb op 3) 1 0)) (side_bits b t (pick (eqb op 1) 1 0)) 0
    (four_bits (bit_from THR) b t (pick (eqb op 2) 2 0))

-- ---- the families that have an IALU

-- register i of an IALU: 31 is no place; none where it is kept
unfoldable pub index_bits : ℕ → ℕ → Bool → ℕ
index_bits ialu i kept = side_bits ialu i (pick (kept || eqb i 31) 0 1)

abbrev pub stored_arith : ℕ → ℕ → PlaceSet
stored_arith ialu t = words 0 0 (index_bits ialu t false) 0

unfoldable pub stored_buffer : ℕ → ℕ → ℕ → PlaceSet
stored_buffer ialu op t = words 0 0 0 (four_bits (pick (eqb op 15) (bit_from Base) (bit_from Length)) ialu t 1)

-- ---- an access

-- the registers that it loads
abbrev pub load_bits : ℕ → ℕ → ℕ → ℕ → ℕ
load_bits op w file n = side_bits file n (pick (is_store op) 0 w)

abbrev pub load_ialu : ℕ → ℕ → ℕ → ℕ → ℕ
load_ialu op w file n = pick (ltb file 2) 0 (load_bits op w file n)

abbrev pub access_set : ℕ → ℕ → ℕ → ℕ → ℕ → ℕ → PlaceSet
access_set ialu op w file n f =
    words (pick (ltb file 2) (load_bits op w file n) 0) 0
    (bit_or (load_ialu op w file n) (index_bits ialu f (keeps_index op))) 0

-- it loads the index that it updates
abbrev pub access_twice : ℕ → ℕ → ℕ → ℕ → ℕ → ℕ → Bool
access_twice ialu op w file n f = not (eqb (bit_and (load_ialu op w file n) (index_bits ialu f (keeps_index op))) 0)

unfoldable pub access_stores : ℕ → ℕ → ℕ → ℕ → ℕ → ℕ → Stored
access_stores ialu op w file n f =
    record { set = access_set ialu op w file n f; twice = access_twice ialu op w file n f }

-- ---- a load through a data alignment buffer

abbrev pub dab_bits : ℕ → ℕ
dab_bits b = four_bits (bit_from Dab) b 0 4

-- four registers of R, the buffer and the index
unfoldable pub stored_dab_load : ℕ → ℕ → ℕ → ℕ → PlaceSet
stored_dab_load ialu b t f = words (side_bits b t 4) 0 (index_bits ialu f false) (dab_bits b)

-- ---- a slot

abbrev pub once : PlaceSet → Stored
once s = record { set = s; twice = false }

unfoldable pub stored_set : Bool → Slot → PlaceSet
stored_set loaded (Alu b op t f s) = stored_r b t 1
stored_set loaded (Shifter b op t f s) = stored_r b t (pick (eqb op 7) 0 1)
stored_set loaded (Trellis b op t f s q) = stored_tr b t 2
stored_set loaded (Tmax b op t f s) = stored_r b t 1
stored_set loaded (Despread b op t f p o) = stored_despread loaded b op t p o
stored_set loaded (Transfer b op t f) = stored_transfer b op t
stored_set loaded (Arith ialu op t f s i) = stored_arith ialu t
stored_set loaded (Buffer ialu op t f) = stored_buffer ialu op t
stored_set loaded (Access ialu op w file n f s i) = access_set ialu op w file n f
stored_set loaded (DabLoad ialu b t f i) = stored_dab_load ialu b t f

-- a slot of another family stores no register twice
abbrev pub stored_twice : Slot → Bool
stored_twice x = on_access false (λ ialu op w file n f s i. access_twice ialu op w file n f) x

abbrev pub registers_stored : Bool → Slot → Stored
registers_stored loaded x = record { set = stored_set loaded x; twice = stored_twice x }

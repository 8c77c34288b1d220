-- The places that a slot's store puts values in are those of its footprint.
use mathlib.Core.Path.{sym, ◌∙◌}
use mathlib.Core.Bool.{Bool}
use mathlib.Core.List.{List, ◌++◌, append_assoc}
use Prim.Native.Nat.{ℕ}
use native.Mathlib.Omega.{arith}
use Rattle.slots.specs.Places.{in_memory}
use Rattle.slots.specs.Stores.{stored}
use Rattle.slots.specs.declared.slot.Slot.{Slot}
use Rattle.slots.specs.declared.slot.Slot.TheVariants.{Alu, Shifter, Trellis, Tmax, Despread, Transfer}
use Rattle.slots.specs.declared.slot.Slot.TheVariants.{Arith, Buffer, Access, DabLoad}
use Rattle.slots.proofs.Valid.{Valid}
use Rattle.machine.specs.Fetches.{targets}
use Rattle.sets.specs.PlaceSets.{words}
use Rattle.sets.specs.StoredSets.{stored_set}
use Rattle.sets.proofs.StoredSets.{stored_fits, stored_set_lem}
use Rattle.instructions.specs.Storing.{store_of}
use Rattle.instructions.proofs.StoredPlaces.{flag_group, stored_places}
use Rattle.instructions.proofs.StoredWords.{ranged}
use Rattle.footprints.specs.Footprints.{flags_stored, slot_stores}
use Rattle.footprints.proofs.Parts.{Of, none_of, and_of, flags_of, Covers}

flags_stored_of : (x : Slot) → Valid x → Of (flag_group x) (words 0 0 0 (flags_stored x))
unfolding flags_stored
flags_stored_of (Alu b op t f s) h = flags_of 0 b (omega arith)
flags_stored_of (Shifter b op t f s) h = flags_of 2 b (omega arith)
flags_stored_of (Trellis b op t f s q) h = flags_of 4 b (omega arith)
flags_stored_of (Tmax b op t f s) h = flags_of 4 b (omega arith)
flags_stored_of (Despread b op t f p o) h = flags_of 4 b (omega arith)
flags_stored_of (Arith ialu op t f s i) h = flags_of 6 ialu (omega arith)
flags_stored_of (Transfer b op t f) h = none_of
flags_stored_of (Buffer ialu op t f) h = none_of
flags_stored_of (Access ialu op w file n f s i) h = none_of
flags_stored_of (DabLoad ialu b t f i) h = none_of

-- ---- all places

module _ (l : Bool) (v : List ℕ) (x : Slot) (h : Valid x) where
  stored_of : Of (stored l x) (stored_set l x)
  stored_of = record { fits = stored_fits l x h; set_is = stored_set_lem l x h }

  pub stored_covered : Covers (slot_stores l x v) (targets (store_of l x v))
  unfolding slot_stores
  stored_covered =
      let r = ranged x v in
      record {
        regs = stored l x ++ flag_group x;
        low = r.from;
        count = r.count;
        regs_of = and_of stored_of (flags_stored_of x h);
        words_are = r.range_is;
        whole =
            stored_places l x v h
            ∙ rw r.words_are (sym (append_assoc (stored l x) (flag_group x) (in_memory r.from r.count)));
      }

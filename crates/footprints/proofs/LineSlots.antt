-- The places that a slot in its line asks, and those that it stores, are those of its footprints.
use mathlib.Core.Path.{◌≡◌, refl, sym, ap, ◌∙◌}
use mathlib.Core.Bool.{Bool, true, false, not, ◌&&◌}
use mathlib.Core.List.{List, [], ◌++◌, append_assoc, append-nil}
use Prim.Native.Nat.{ℕ}
use native.Mathlib.Omega.{arith}
use lib.Dec.{eqb}
use borrow.Author.Tests.{leb-true}
use Rattle.bits.specs.Pick.{pick}
use Rattle.slots.specs.Places.{Place, Memory, places, in_flags}
use Rattle.slots.specs.Conditionals.{condition_fits}
use Rattle.slots.specs.declared.conditional_slot.LineSlot.{LineSlot}
use Rattle.slots.specs.declared.slot.Slot.{Slot}
use Rattle.slots.specs.declared.slot.Slot.TheVariants.{Alu, Shifter, Trellis, Tmax, Despread, Transfer}
use Rattle.slots.specs.declared.slot.Slot.TheVariants.{Arith, Buffer, Access, DabLoad}
use Rattle.slots.proofs.Valid.{Valid}
use Rattle.machine.specs.Machine.{Machine}
use Rattle.machine.specs.Fetches.{values, asked, targets, when}
use Rattle.machine.specs.SlotConditions.{condition_ialu, condition_places}
use Rattle.sets.specs.PlaceSets.{words, nothing}
use Rattle.instructions.specs.Fetching.{fetch_of}
use Rattle.instructions.specs.Storing.{store_of}
use Rattle.conditional.specs.LineSlots.{live, loaded, live_words, fetch_in, store_in}
use Rattle.conditional.proofs.LineSlots.{is_live, is_loaded, mark_read, held_on, asked_on, held_off, asked_off}
use Rattle.footprints.specs.Footprints.{registers, flag_bits, slot_reads, slot_stores, condition_bits, before, reads_in, stores_in}
use Rattle.footprints.specs.declared.footprint.Footprint.{Footprint}
use Rattle.footprints.proofs.Parts.{Of, none_of, and_of, flags_of, Covers, registers_cover}
use Rattle.footprints.proofs.ReadPlaces.{read_covered}
use Rattle.footprints.proofs.StoredPlaces.{stored_covered}

-- ---- the flag group of a condition

condition_of_lem : (c : ℕ) → Of (condition_places c) (words 0 0 0 (condition_bits c))
unfolding condition_bits
condition_of_lem c = go (eqb c 0) (condition_fits c) refl
  where
    go : (z f : Bool) → condition_fits c ≡ f
        → Of (when (not z && f) (in_flags 6 (condition_ialu c))) (words 0 0 0 (pick z 0 (pick f (flag_bits 6 (condition_ialu c)) 0)))
    go true f q = none_of
    go false true q = flags_of 6 (condition_ialu c) (let h = leb-true c 12 q in omega arith)
    go false false q = none_of

-- that group before other places
before_covers : (c : ℕ) {x : Footprint} {ps : List Place} → Covers x ps → Covers (before c x) (condition_places c ++ ps)
unfolding before
before_covers c o =
    record {
      regs = condition_places c ++ o.regs;
      low = o.low;
      count = o.count;
      regs_of = and_of (condition_of_lem c) o.regs_of;
      words_are = o.words_are;
      whole =
          ap (λ (qs : List Place). condition_places c ++ qs) o.whole
          ∙ sym (append_assoc (condition_places c) o.regs (places Memory o.low o.count));
    }

none_covered : Covers (registers nothing) []
none_covered = registers_cover none_of refl

-- ---- what a slot reads

-- a family's footprint goes by its own words
family_reads : (l k : Bool) (x : Slot) (v : List ℕ) → slot_reads l x (live_words k v) ≡ slot_reads l x v
unfolding slot_reads
family_reads l k (Alu b op t f s) v = refl
family_reads l k (Shifter b op t f s) v = refl
family_reads l k (Trellis b op t f s q) v = refl
family_reads l k (Tmax b op t f s) v = refl
family_reads l k (Despread b op t f p o) v = refl
family_reads l k (Transfer b op t f) v = refl
family_reads l k (Arith ialu op t f s i) v = refl
family_reads l k (Buffer ialu op t f) v = refl
family_reads l k (Access ialu op w file n f s i) v = refl
family_reads l k (DabLoad ialu b t f i) v = refl

module _ (m : Machine) (x : LineSlot) where
  pub reads_covered : Valid x.slot → Covers (reads_in x (values (fetch_in x) m)) (asked (fetch_in x) m)
  unfolding reads_in
  reads_covered h = go (is_live m x) refl
    where
      go : (b : Bool) → is_live m x ≡ b → Covers (reads_in x (values (fetch_in x) m)) (asked (fetch_in x) m)
      go true on =
          let l = is_loaded m x in
          rw (held_on m x on, asked_on m x on, mark_read l, family_reads l l x.slot (values (fetch_of l x.slot) m))
          (before_covers x.condition (before_covers x.load (read_covered m l x.slot h)))
      go false off =
          rw (held_off m x off, asked_off m x off, ← append-nil (condition_places x.condition))
          (before_covers x.condition none_covered)

-- ---- what it stores

pub stores_covered : (x : Slot) (v : List ℕ) → Valid x → Covers (stores_in x v) (targets (store_in x v))
unfolding stores_in store_in targets
stores_covered x v h = go (live v)
  where
    go : (b : Bool)
        → Covers (pick b (slot_stores (loaded v) x v) (registers nothing))
        (targets (pick b (store_of (loaded v) x v) []))
    go true = stored_covered (loaded v) v x h
    go false = none_covered

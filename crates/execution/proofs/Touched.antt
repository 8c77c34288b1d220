-- The memory words that a live access touches, those that its fetch asks and its store puts values in, are the words at its
-- address, as many as its width; of a load through a data alignment buffer they are the quad that holds its index.
use mathlib.Core.Path.{◌≡◌, refl, sym, ap, ap₂, ◌∙◌}
use mathlib.Core.Bool.{Bool, true, false, not, ◌&&◌}
use mathlib.Core.List.{List, [], ◌∷◌, ◌++◌, append-nil, append_assoc}
use Prim.Native.Nat.{ℕ, zero, suc, ◌+◌, ◌*◌}
use native.Mathlib.Omega.{arith}
use lib.Dec.{ltb, eqb}
use borrow.Author.Tests.{ne_eqb}
use Rattle.bits.specs.Pick.{pick}
use Rattle.word.specs.Ialu.{address}
use Rattle.word.specs.Addresses.{quad_at}
use Rattle.slots.specs.Lists.{All}
use Rattle.slots.specs.Places.{Base, Length, Memory, Place, file_number, places, ialu_file, in_ialu, in_buffers, access_file, in_file, in_flags, in_memory, in_dab}
use Rattle.slots.specs.Conditionals.{condition_fits}
use Rattle.slots.specs.declared.conditional_slot.LineSlot.{LineSlot}
use Rattle.slots.specs.Stores.{stored}
use Rattle.bits.specs.Ops.{is_store}
use Rattle.slots.specs.declared.slot.Slot.TheVariants.{Access, DabLoad}
use Rattle.slots.proofs.Valid.{Valid}
use Rattle.machine.specs.Machine.{Machine}
use Rattle.machine.specs.Fetches.{values, asked, targets, when}
use Rattle.machine.proofs.Fetches.{gets, values_asks, asked_asks}
use Rattle.machine.specs.SlotConditions.{condition_ialu, condition_places}
use Rattle.instructions.specs.Held.{word}
use Rattle.instructions.specs.Fetching.{in_second, fetch_access, fetch_dab_load}
use Rattle.bits.specs.Ops.{is_circular}
use Rattle.instructions.specs.Storing.{store_of}
use Rattle.conditional.specs.LineSlots.{live_words, fetch_in}
use Rattle.conditional.specs.declared.line_slot.Fetched.{Fetched}
use Rattle.execution.specs.Touches.{memory_of, touched}
use Rattle.instructions.proofs.AccessFetch.{length_asked, base_places, address_of, moved_places, access_held, access_asked}
use Rattle.execution.proofs.Registers.{InRegisters, registers, ialu_file_lem, access_file_lem, dab_registers, stored_registers}
use Rattle.instructions.proofs.StoredPlaces.{stored_places}
use Rattle.conditional.proofs.LineSlots.{is_live, is_loaded, family_asks, held_live, asked_on, stored_on, asked_off, stored_off}

-- ---- lists of places

memory_append : (ps qs : List Place) → memory_of (ps ++ qs) ≡ memory_of ps ++ memory_of qs
memory_append [] qs = refl
memory_append (p ∷ ps) qs = rw (memory_append ps qs) (go (eqb (file_number p.file) 8))
  where
    go : (b : Bool)
        → pick b (p ∷ (memory_of ps ++ memory_of qs)) (memory_of ps ++ memory_of qs)
        ≡ pick b (p ∷ memory_of ps) (memory_of ps) ++ memory_of qs
    go true = refl
    go false = refl

no_memory : (ps : List Place) → All InRegisters ps → memory_of ps ≡ []
no_memory [] h = refl
no_memory (p ∷ ps) h = rw (ne_eqb (file_number p.file) 8 h.0.1) (no_memory ps h.1)

all_memory : (i n : ℕ) → memory_of (places Memory i n) ≡ places Memory i n
all_memory i zero = refl
all_memory i (suc n) = ap (λ (l : List Place). record { file = Memory; index = i } ∷ l) (all_memory (suc i) n)

-- registers before other places
after_registers : (ps qs : List Place) → All InRegisters ps → memory_of (ps ++ qs) ≡ memory_of qs
after_registers ps qs h = memory_append ps qs ∙ rw (no_memory ps h)

when_registers : (c : Bool) (ps : List Place) → All InRegisters ps → All InRegisters (when c ps)
when_registers true ps h = h
when_registers false ps h = tt

-- ---- an access

module _ (m : Machine) (ialu op w file n f s i : ℕ) where
  second_registers : All InRegisters (in_second ialu s)
  second_registers =
      when_registers (not (eqb s 32)) (in_ialu ialu s) (registers (ialu_file ialu) s (pick (eqb s 31) 0 1) (ialu_file_lem (eqb ialu 0)))

  -- a load asks the words at its address, a store asks no memory word
  memory_asked : memory_of (asked (fetch_access ialu op w file n f s i) m) ≡ pick (is_store op) [] (in_memory (address_of m ialu op w file n f s i) w)
  memory_asked =
      rw (access_asked m ialu op w file n f s i)
      (after_registers (in_ialu ialu f) _ (registers (ialu_file ialu) f (pick (eqb f 31) 0 1) (ialu_file_lem (eqb ialu 0)))
      ∙ after_registers (in_second ialu s) _ second_registers
      ∙ after_registers (when (is_circular op) (in_buffers Length ialu f)) _
      (when_registers (is_circular op) (in_buffers Length ialu f) (registers Length (4 * ialu + f) 1 (omega arith)))
      ∙ after_registers (base_places m ialu op w file n f s i) _
      (when_registers (not (eqb (word 0 (length_asked m ialu op w file n f s i)) 0)) (in_buffers Base ialu f) (registers Base (4 * ialu + f) 1 (omega arith)))
      ∙ ap memory_of (append-nil (moved_places m ialu op w file n f s i))
      ∙ moved (is_store op))
    where
      moved : (c : Bool) → memory_of (pick c (in_file file n w) (in_memory (address_of m ialu op w file n f s i) w)) ≡ pick c [] (in_memory (address_of m ialu op w file n f s i) w)
      moved true =
          no_memory (in_file file n w)
          (registers (access_file file) (pick (ltb file 2) (32 * file) 0 + n) w (access_file_lem (ltb file 2) (eqb file 2)))
      moved false = all_memory (address_of m ialu op w file n f s i) w

  -- a store puts values in the words at its address, a load in no memory word
  memory_stored : (l : Bool) (v : List ℕ) → Valid (Access ialu op w file n f s i)
      → memory_of (targets (store_of l (Access ialu op w file n f s i) v))
      ≡ in_memory (address op (word 0 v) (word 1 v)) (pick (is_store op) w 0)
  memory_stored l v h =
      ap memory_of (stored_places l (Access ialu op w file n f s i) v h)
      ∙ after_registers (stored l (Access ialu op w file n f s i)) _ (stored_registers l (Access ialu op w file n f s i))
      ∙ all_memory (address op (word 0 v) (word 1 v)) (pick (is_store op) w 0)

  -- what it touches, by what it holds
  pub touched_words : (l : Bool) → Valid (Access ialu op w file n f s i) → let v = values (fetch_access ialu op w file n f s i) m in
      memory_of (asked (fetch_access ialu op w file n f s i) m
      ++ targets (store_of l (Access ialu op w file n f s i) (live_words l v)))
      ≡ in_memory (address op (word 0 v) (word 1 v)) w
  touched_words l h =
      memory_append (asked (fetch_access ialu op w file n f s i) m) _
      ∙ ap₂ ◌++◌ memory_asked (memory_stored l (live_words l (values (fetch_access ialu op w file n f s i) m)) h)
      ∙ rw (access_held m ialu op w file n f s i) (one_of_two (is_store op))
    where
      one_of_two : (c : Bool) → pick c [] (in_memory (address_of m ialu op w file n f s i) w) ++ in_memory (address_of m ialu op w file n f s i) (pick c w 0) ≡ in_memory (address_of m ialu op w file n f s i) w
      one_of_two true = refl
      one_of_two false = append-nil (in_memory (address_of m ialu op w file n f s i) w)

-- ---- a load through a data alignment buffer

module _ (m : Machine) (ialu b t f i : ℕ) where
  -- the places that it asks: those of its base, the quad that holds its index
  abbrev bases : List Place
  bases = when (not (eqb (word 0 (gets m (in_buffers Length ialu f))) 0)) (in_buffers Base ialu f)

  abbrev quad : List Place
  quad = in_memory (quad_at (word 0 (gets m (in_ialu ialu f)))) 4

  load_asked : asked (fetch_dab_load ialu b f) m
      ≡ in_ialu ialu f ++ (in_buffers Length ialu f ++ (bases ++ (in_dab b ++ (quad ++ []))))
  unfolding fetch_dab_load asked
  load_asked = simp asked_asks

  quad_asked : memory_of (asked (fetch_dab_load ialu b f) m) ≡ quad
  quad_asked =
      rw load_asked
      (after_registers (in_ialu ialu f) (in_buffers Length ialu f ++ (bases ++ (in_dab b ++ (quad ++ []))))
      (registers (ialu_file ialu) f (pick (eqb f 31) 0 1) (ialu_file_lem (eqb ialu 0)))
      ∙ after_registers (in_buffers Length ialu f) (bases ++ (in_dab b ++ (quad ++ []))) (registers Length (4 * ialu + f) 1 (omega arith))
      ∙ after_registers bases (in_dab b ++ (quad ++ []))
      (when_registers (not (eqb (word 0 (gets m (in_buffers Length ialu f))) 0)) (in_buffers Base ialu f)
      (registers Base (4 * ialu + f) 1 (omega arith)))
      ∙ after_registers (in_dab b) (quad ++ []) (dab_registers b)
      ∙ ap memory_of (append-nil quad)
      ∙ all_memory (quad_at (word 0 (gets m (in_ialu ialu f)))) 4)

  none_stored : (l : Bool) (v : List ℕ) → Valid (DabLoad ialu b t f i) → memory_of (targets (store_of l (DabLoad ialu b t f i) v)) ≡ []
  none_stored l v h =
      ap memory_of (stored_places l (DabLoad ialu b t f i) v h)
      ∙ after_registers (stored l (DabLoad ialu b t f i)) _ (stored_registers l (DabLoad ialu b t f i))

  index_held : word 0 (values (fetch_dab_load ialu b f) m) ≡ word 0 (gets m (in_ialu ialu f))
  unfolding fetch_dab_load values
  index_held = simp values_asks

  pub touched_quad : (l : Bool) → Valid (DabLoad ialu b t f i) → let v = values (fetch_dab_load ialu b f) m in
      memory_of (asked (fetch_dab_load ialu b f) m ++ targets (store_of l (DabLoad ialu b t f i) (live_words l v)))
      ≡ in_memory (quad_at (word 0 v)) 4
  touched_quad l h =
      memory_append (asked (fetch_dab_load ialu b f) m) _
      ∙ ap₂ ◌++◌ quad_asked (none_stored l (live_words l (values (fetch_dab_load ialu b f) m)) h)
      ∙ append-nil quad
      ∙ ap (λ (x : ℕ). in_memory (quad_at x) 4) (sym index_held)

-- ---- a slot in its line: the flag groups of its conditions are no memory words

condition_registers : (c : ℕ) → memory_of (condition_places c) ≡ []
condition_registers c = go (not (eqb c 0) && condition_fits c)
  where
    go : (b : Bool) → memory_of (when b (in_flags 6 (condition_ialu c))) ≡ []
    go true = refl
    go false = refl

module _ (m : Machine) (x : LineSlot) where
  abbrev fetched : Fetched
  fetched = record { slot = x; held = values (fetch_in x) m }

  after_condition : (c : ℕ) (ps : List Place) → memory_of (condition_places c ++ ps) ≡ memory_of ps
  after_condition c ps = memory_append (condition_places c) ps ∙ rw (condition_registers c)

  -- a live slot touches what its family does
  pub live_touches : is_live m x ≡ true
      → touched m fetched ≡ memory_of (family_asks m x ++ targets (store_of (is_loaded m x) x.slot (held_live m x)))
  live_touches on =
      rw (asked_on m x on, stored_on m x on)
      (ap memory_of (append_assoc (condition_places x.condition) _ _)
      ∙ after_condition x.condition _
      ∙ ap memory_of (append_assoc (condition_places x.load) _ _)
      ∙ after_condition x.load _)

  -- and one whose condition fails, nothing
  pub failed_touches : is_live m x ≡ false → touched m fetched ≡ []
  unfolding targets
  failed_touches off =
      rw (asked_off m x off, stored_off m x off)
      (ap memory_of (append-nil (condition_places x.condition)) ∙ condition_registers x.condition)

-- 01, 'Slots': what each slot stores, as values made from what it holds and the line's words alone.
use Rattle.std.specs.Prelude.{ℕ, ◌%◌, Bool, List, [], ◌∷◌, ◌++◌, take, drop, eqb}
use Rattle.bits.specs.Pick.{pick}
use Rattle.word.specs.Alu.{alu}
use Rattle.word.specs.Shifter.{shifter}
use Rattle.word.specs.Ialu as ialus
use Rattle.word.specs.Addresses.{circular}
use Rattle.clu.specs.Clu.{clu}
use Rattle.clu.specs.Despread.{shifted_pair}
use Rattle.clu.specs.declared.despread.Pair.{Pair}
use Rattle.bits.specs.declared.flags.Outcome.{Outcome}
use Rattle.clu.specs.declared.unit.CluOutcome.{CluOutcome}
use Rattle.slots.specs.Families.{on_access}
use Rattle.slots.specs.Places.{Place, Base, Length, in_r, in_tr, in_thr, in_ialu, in_buffers, in_file, in_flags, in_memory, in_dab}
use Rattle.bits.specs.Ops.{is_store, keeps_index, despread_words, old_words}
use Rattle.slots.specs.declared.slot.Slot.{Slot}
use Rattle.slots.specs.declared.slot.Slot.TheVariants.{Alu, Shifter, Trellis, Tmax, Despread, Transfer}
use Rattle.slots.specs.declared.slot.Slot.TheVariants.{Arith, Buffer, Access, DabLoad}
use Rattle.machine.specs.Fetches.{Write, assign}
use Rattle.instructions.specs.Held.{first, second, index, modifier, base, len, quad, old_quad, first_pair, second_pair, old_flags, transfer_r, transfer_next, transfer_tr}

-- ---- ALU, shifter, CLU: results into registers, then the flag group

-- the result into R target
unfoldable pub store_alu : ℕ → ℕ → Outcome → List Write
store_alu b t o = assign (in_r b t 1) (o.value ∷ []) ++ assign (in_flags 0 b) (o.flags ∷ [])

-- test (7) stores no register
unfoldable pub store_shifter : ℕ → ℕ → ℕ → Outcome → List Write
store_shifter b op t o =
    assign (in_r b t (pick (eqb op 7) 0 1)) (o.value ∷ []) ++ assign (in_flags 2 b) (o.flags ∷ [])

unfoldable pub store_trellis : ℕ → ℕ → CluOutcome → List Write
store_trellis b t o = assign (in_tr b t 2) (o.low ∷ o.high ∷ []) ++ assign (in_flags 4 b) (o.flags ∷ [])

unfoldable pub store_tmax : ℕ → ℕ → CluOutcome → List Write
store_tmax b t o = assign (in_r b t 1) (o.low ∷ []) ++ assign (in_flags 4 b) (o.flags ∷ [])

-- DESPREAD into TR target; its old words into R imm (12, 13); the pair shifted, but where the line loads it
unfoldable pub store_despread : ℕ → ℕ → ℕ → ℕ → ℕ → Bool → Pair → Pair → CluOutcome → List Write
store_despread b op t p r loaded old shifted o =
    assign (in_tr b t (despread_words op)) (o.low ∷ o.high ∷ [])
    ++ (assign (in_r b r (old_words op)) (old.low ∷ old.high ∷ [])
    ++ (assign (in_thr b p (pick loaded 0 2)) (shifted.low ∷ shifted.high ∷ [])
    ++ assign (in_flags 4 b) (o.flags ∷ [])))

-- R first is x, the next R x2, and TR first y
unfoldable pub store_transfer : ℕ → ℕ → ℕ → ℕ → ℕ → ℕ → List Write
store_transfer b op t x x2 y =
    assign (in_tr b t (pick (eqb op 1) 1 0)) (x ∷ [])
    ++ (assign (in_r b t (pick (eqb op 3) 1 0)) (y ∷ []) ++ assign (in_thr b t (pick (eqb op 2) 2 0)) (x ∷ x2 ∷ []))

-- ---- IALU

-- a result sent to register 31 is dropped; the flags are stored
unfoldable pub store_arith : ℕ → ℕ → Outcome → List Write
store_arith ialu t o = assign (in_ialu ialu t) (o.value ∷ []) ++ assign (in_flags 6 ialu) (o.flags ∷ [])

-- 15 B, 16 L target = first
unfoldable pub store_buffer : ℕ → ℕ → ℕ → ℕ → List Write
store_buffer ialu op t x = assign (in_buffers (pick (eqb op 15) Base Length) ialu t) (x ∷ [])

-- the words c of a load into registers of its file, and the index but of 18 and 20; those of a store into memory at the address
unfoldable pub store_access : ℕ → ℕ → ℕ → ℕ → ℕ → ℕ → ℕ → ℕ → List ℕ → List Write
store_access ialu op w file n f addr updated c =
    assign (in_file file n (pick (is_store op) 0 w)) c
    ++ (assign (pick (keeps_index op) [] (in_ialu ialu f)) (updated ∷ [])
    ++ assign (in_memory addr (pick (is_store op) w 0)) c)

-- document 02, Note 6: four words from position p on of what the buffer held and then the new quad
abbrev pub delivered : ℕ → List ℕ → List ℕ → List ℕ
delivered p old new = take 4 (drop p (old ++ new))

-- they go to R target and the three after it; the buffer keeps the new quad; the index is updated
unfoldable pub store_dab_load : ℕ → ℕ → ℕ → ℕ → ℕ → ℕ → List ℕ → List ℕ → List Write
store_dab_load ialu b t f p updated old new =
    assign (in_r b t 4) (delivered p old new) ++ (assign (in_dab b) new ++ assign (in_ialu ialu f) (updated ∷ []))

-- ---- a slot's store from the words v that it holds; loaded: the line loads the THR pair that the slot shifts

unfoldable pub clu_of : ℕ → List ℕ → CluOutcome
clu_of op v = clu op (first_pair v) (second_pair v) (quad v) (old_flags v)

abbrev pub store_of : Bool → Slot → List ℕ → List Write
store_of loaded (Alu b op t f s) v = store_alu b t (alu op (first v) (second v))
store_of loaded (Shifter b op t f s) v = store_shifter b op t (shifter op (first v) (second v))
store_of loaded (Trellis b op t f s q) v = store_trellis b t (clu_of op v)
store_of loaded (Tmax b op t f s) v = store_tmax b t (clu_of op v)
store_of loaded (Despread b op t f p o) v =
    store_despread b op t p o loaded (first_pair v) (shifted_pair (second_pair v)) (clu_of op v)
store_of loaded (Transfer b op t f) v = store_transfer b op t (transfer_r v) (transfer_next v) (transfer_tr v)
store_of loaded (Arith ialu op t f s i) v = store_arith ialu t (ialus.ialu op (index v) (modifier v) (base v) (len v))
store_of loaded (Buffer ialu op t f) v = store_buffer ialu op t (first v)
store_of loaded (Access ialu op w file n f s i) v =
    store_access ialu op w file n f (ialus.address op (index v) (modifier v))
    (ialus.updated op (index v) (modifier v) (base v) (len v)) (quad v)
store_of loaded (DabLoad ialu b t f i) v =
    store_dab_load ialu b t f (index v % 4) (circular (base v) (len v) (index v) (modifier v)).value (old_quad v) (quad v)

-- the memory words that a slot stores
abbrev pub words_stored : Slot → List ℕ → List Place
words_stored x v =
    on_access [] (λ ialu op w file n f s i. in_memory (ialus.address op (index v) (modifier v)) (pick (is_store op) w 0)) x

-- The places that a slot's store puts values in: the register places that the checker lists, its flag group, and the memory
-- words of rule 10.
use mathlib.Core.Path.{◌≡◌, refl, ap, ap₂, ◌∙◌, sym}
use mathlib.Core.Bool.{Bool, true, false}
use mathlib.Core.List.{List, [], ◌∷◌, ◌++◌, append_assoc, append-nil}
use Prim.Native.Nat.{ℕ, zero, suc, ◌+◌, ◌*◌, ◌%◌, ◌≤◌}
use native.Mathlib.Omega.{arith}
use lib.ListN.{length, drop, length-take, length-drop}
use lib.Dec.{eqb}
use Rattle.bits.specs.Pick.{pick}
use Rattle.word.specs.Ialu.{address}
use Rattle.slots.specs.Places.{File, R, TR, THR, Base, Length, Memory, Place, places, in_r, in_tr, ialu_file, in_ialu, in_buffers, access_file, in_flags, in_dab}
use Rattle.slots.specs.Stores.{stored}
use Rattle.bits.specs.Ops.{is_store, keeps_index, despread_words, old_words}
use Rattle.slots.specs.declared.slot.Slot.{Slot}
use Rattle.slots.specs.declared.slot.Slot.TheVariants.{Alu, Shifter, Trellis, Tmax, Despread, Transfer}
use Rattle.slots.specs.declared.slot.Slot.TheVariants.{Arith, Buffer, Access, DabLoad}
use Rattle.slots.proofs.Valid.{Valid}
use Rattle.machine.specs.Fetches.{Write, assign, targets}
use Rattle.instructions.specs.Held.{word, quad, old_quad}
use Rattle.instructions.specs.Storing.{store_alu, store_shifter, store_trellis, store_tmax, store_despread, store_transfer, store_arith, store_buffer, store_access, delivered, store_dab_load, store_of, words_stored}

-- the flag group that a slot stores: by its unit's number less 1
abbrev pub flag_group : Slot → List Place
flag_group (Alu b op t f s) = in_flags 0 b
flag_group (Shifter b op t f s) = in_flags 2 b
flag_group (Trellis b op t f s q) = in_flags 4 b
flag_group (Tmax b op t f s) = in_flags 4 b
flag_group (Despread b op t f p o) = in_flags 4 b
flag_group (Transfer b op t f) = []
flag_group (Arith ialu op t f s i) = in_flags 6 ialu
flag_group (Buffer ialu op t f) = []
flag_group (Access ialu op w file n f s i) = []
flag_group (DabLoad ialu b t f i) = []

-- ---- the places of a list of writes

pub targets_append : (us ws : List Write) → targets (us ++ ws) ≡ targets us ++ targets ws
unfolding targets
targets_append [] ws = refl
targets_append (u ∷ us) ws = ap (λ (l : List Place). u.to ∷ l) (targets_append us ws)

pub targets_assign : (ps : List Place) (vs : List ℕ) → length ps ≤ length vs → targets (assign ps vs) ≡ ps
unfolding targets assign
targets_assign [] vs h = refl
targets_assign (p ∷ ps) [] h = absurd (omega arith)
targets_assign (p ∷ ps) (v ∷ vs) h = ap (λ (l : List Place). p ∷ l) (targets_assign ps vs (omega arith))

places_length : (f : File) (i n : ℕ) → length (places f i n) ≡ n
places_length f i zero = refl
places_length f i (suc n) = ap suc (places_length f (suc i) n)

-- a span no longer than the values
pub targets_span : (f : File) (i n : ℕ) (vs : List ℕ) → n ≤ length vs → targets (assign (places f i n) vs) ≡ places f i n
targets_span f i n vs h = targets_assign (places f i n) vs (rw places_length h)

-- a count under a condition
pub pick_fits : (c : Bool) (m n k : ℕ) → m ≤ k → n ≤ k → pick c m n ≤ k
pick_fits true m n k h g = h
pick_fits false m n k h g = g

-- two lists of places, each with its values
targets_two : (ps qs : List Place) (us vs : List ℕ) → length ps ≤ length us → length qs ≤ length vs
    → targets (assign ps us ++ assign qs vs) ≡ ps ++ qs
targets_two ps qs us vs h k =
    targets_append (assign ps us) (assign qs vs) ∙ ap₂ ◌++◌ (targets_assign ps us h) (targets_assign qs vs k)

pub old_fit : (op : ℕ) → old_words op ≤ 2
old_fit op =
    pick_fits (eqb op 11) 0 (despread_words op) 2 (omega arith) (pick_fits (eqb op 13) 2 1 2 (omega arith) (omega arith))

-- the index of an access, where it is updated
index_fits : (op k f : ℕ) → length (pick (keeps_index op) [] (in_ialu k f)) ≤ 1
index_fits op k f = go (keeps_index op)
  where
    go : (c : Bool) → length (pick c [] (in_ialu k f)) ≤ 1
    go true = omega arith
    go false = rw (places_length (ialu_file k) f (pick (eqb f 31) 0 1)) (pick_fits (eqb f 31) 0 1 1 (omega arith) (omega arith))

-- four words are delivered, from any position in a quad on
delivered_fits : (i : ℕ) (v : List ℕ) → 4 ≤ length (delivered (i % 4) (old_quad v) (quad v))
delivered_fits i v =
    let p : i % 4 ≤ 3 = omega arith in
    rw (length-take 4 (drop (i % 4) (old_quad v ++ quad v)), length-drop (i % 4) (old_quad v ++ quad v)) (omega arith)

pub stored_places : (loaded : Bool) (x : Slot) (v : List ℕ) → Valid x
    → targets (store_of loaded x v) ≡ stored loaded x ++ (flag_group x ++ words_stored x v)
unfolding stored store_alu store_shifter store_trellis store_tmax store_despread store_transfer store_arith store_buffer
    store_access store_dab_load
stored_places loaded (Alu b op t f s) v h = targets_two (in_r b t 1) (in_flags 0 b) _ _ (omega arith) (omega arith)
stored_places loaded (Shifter b op t f s) v h =
    targets_append _ _
    ∙ ap₂ ◌++◌ (targets_span R (32 * b + t) (pick (eqb op 7) 0 1) _ (pick_fits (eqb op 7) 0 1 1 (omega arith) (omega arith)))
    (targets_assign (in_flags 2 b) _ (omega arith))
stored_places loaded (Trellis b op t f s q) v h = targets_two (in_tr b t 2) (in_flags 4 b) _ _ (omega arith) (omega arith)
stored_places loaded (Tmax b op t f s) v h = targets_two (in_r b t 1) (in_flags 4 b) _ _ (omega arith) (omega arith)
stored_places loaded (Despread b op t f p o) v h =
    targets_append _ _
    ∙ ap₂ ◌++◌ (targets_span TR (32 * b + t) (despread_words op) _ (pick_fits (eqb op 13) 2 1 2 (omega arith) (omega arith)))
    (targets_append _ _
    ∙ ap₂ ◌++◌ (targets_span R (32 * b + o) (old_words op) _ (old_fit op))
    (targets_append _ _
    ∙ ap₂ ◌++◌ (targets_span THR (4 * b + p) (pick loaded 0 2) _ (pick_fits loaded 0 2 2 (omega arith) (omega arith)))
    (targets_assign (in_flags 4 b) _ (omega arith))))
    ∙ simp append_assoc
stored_places loaded (Transfer b op t f) v h =
    targets_append _ _
    ∙ ap₂ ◌++◌ (targets_span TR (32 * b + t) (pick (eqb op 1) 1 0) _ (pick_fits (eqb op 1) 1 0 1 (omega arith) (omega arith)))
    (targets_append _ _
    ∙ ap₂ ◌++◌ (targets_span R (32 * b + t) (pick (eqb op 3) 1 0) _ (pick_fits (eqb op 3) 1 0 1 (omega arith) (omega arith)))
    (targets_span THR (4 * b + t) (pick (eqb op 2) 2 0) _ (pick_fits (eqb op 2) 2 0 2 (omega arith) (omega arith))))
    ∙ sym (append-nil _)
stored_places loaded (Arith ialu op t f s i) v h =
    targets_append _ _
    ∙ ap₂ ◌++◌ (targets_span (ialu_file ialu) t (pick (eqb t 31) 0 1) _ (pick_fits (eqb t 31) 0 1 1 (omega arith) (omega arith)))
    (targets_assign (in_flags 6 ialu) _ (omega arith))
stored_places loaded (Buffer ialu op t f) v h =
    targets_assign (in_buffers (pick (eqb op 15) Base Length) ialu t) _ (omega arith) ∙ sym (append-nil _)
stored_places loaded (Access ialu op w file n f s i) v h =
    targets_append _ _
    ∙ ap₂ ◌++◌ (targets_span (access_file file) _ (pick (is_store op) 0 w) (quad v)
    (pick_fits (is_store op) 0 w 4 (omega arith) h.2.0.1))
    (targets_append _ _
    ∙ ap₂ ◌++◌ (targets_assign (pick (keeps_index op) [] (in_ialu ialu f)) _ (index_fits op ialu f))
    (targets_span Memory (address op (word 0 v) (word 1 v)) (pick (is_store op) w 0) (quad v)
    (pick_fits (is_store op) w 0 4 h.2.0.1 (omega arith))))
    ∙ simp append_assoc
stored_places loaded (DabLoad ialu b t f i) v h =
    targets_append _ _
    ∙ ap₂ ◌++◌ (targets_assign (in_r b t 4) _ (delivered_fits (word 0 v) v))
    (targets_append _ _
    ∙ ap₂ ◌++◌ (targets_assign (in_dab b) (quad v) (omega arith))
    (targets_span (ialu_file ialu) f (pick (eqb f 31) 0 1) _ (pick_fits (eqb f 31) 0 1 1 (omega arith) (omega arith))))
    ∙ sym (append-nil _)

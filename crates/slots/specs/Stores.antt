-- The register places that a slot stores, and under which condition a line loads the THR pair that a slot shifts.
use Rattle.std.specs.Prelude.{ℕ, List, [], ◌∷◌, ◌++◌, Bool, false, ◌&&◌, eqb}
use Rattle.bits.specs.Pick.{pick}
use Rattle.slots.specs.Lists.{some}
use Rattle.slots.specs.Places.{Place, Base, Length, in_r, in_tr, in_thr, in_ialu, in_buffers, in_file, in_dab}
use Rattle.bits.specs.Ops.{is_store, keeps_index, despread_words, old_words}
use Rattle.slots.specs.Families.{on_despread, on_transfer}
use Rattle.slots.specs.Conditionals.{never, line_slot}
use Rattle.slots.specs.declared.conditional_slot.LineSlot.{LineSlot}
use Rattle.slots.specs.declared.slot.Slot.{Slot}
use Rattle.slots.specs.declared.slot.Slot.TheVariants.{Alu, Shifter, Trellis, Tmax, Despread, Transfer}
use Rattle.slots.specs.declared.slot.Slot.TheVariants.{Arith, Buffer, Access, DabLoad}
use Rattle.slots.specs.declared.conditional_slot.Conditional.{Conditional}

-- loaded: the line loads the THR pair that this DESPREAD shifts. The load wins and DESPREAD stores no THR
unfoldable pub stored : Bool → Slot → List Place
stored loaded (Alu b op t f s) = in_r b t 1
stored loaded (Shifter b op t f s) = in_r b t (pick (eqb op 7) 0 1)
stored loaded (Trellis b op t f s q) = in_tr b t 2
stored loaded (Tmax b op t f s) = in_r b t 1
stored loaded (Despread b op t f p o) =
    in_tr b t (despread_words op) ++ (in_r b o (old_words op) ++ in_thr b p (pick loaded 0 2))
stored loaded (Transfer b op t f) =
    in_tr b t (pick (eqb op 1) 1 0) ++ (in_r b t (pick (eqb op 3) 1 0) ++ in_thr b t (pick (eqb op 2) 2 0))
stored loaded (Arith ialu op t f s i) = in_ialu ialu t
stored loaded (Buffer ialu op t f) = in_buffers (pick (eqb op 15) Base Length) ialu t
stored loaded (Access ialu op w file n f s i) =
    in_file file n (pick (is_store op) 0 w) ++ pick (keeps_index op) [] (in_ialu ialu f)
stored loaded (DabLoad ialu b t f i) = in_r b t 4 ++ (in_dab b ++ in_ialu ialu f)

-- a slot that loads THR pair p of block b
abbrev pub loads_pair : ℕ → ℕ → Slot → Bool
loads_pair b p x = on_transfer false (λ c op t f. eqb op 2 && eqb b c && eqb p t) x

-- whether a line loads the THR pair that a slot shifts
abbrev pub pair_loaded : List Slot → Slot → Bool
pair_loaded line x = on_despread false (λ b op t f p o. some (loads_pair b p) line) x

-- the register places that some slots of a line store
abbrev pub stored_by : List Slot → List Slot → List Place
stored_by line [] = []
stored_by line (x ∷ xs) = stored (pair_loaded line x) x ++ stored_by line xs

-- ---- conditional loads (document 02, Note 5): a load holds a shift back only where its condition holds

-- the condition of the slot that loads THR pair p of block b: rule 5 leaves one at most
abbrev pub load_of : ℕ → ℕ → List Conditional → ℕ
load_of b p [] = never
load_of b p (y ∷ ys) = pick (loads_pair b p y.slot) y.condition (load_of b p ys)

-- the condition under which a line loads the THR pair that a slot shifts
abbrev pub load_condition : List Conditional → Slot → ℕ
load_condition line x = on_despread never (λ b op t f p o. load_of b p line) x

-- a slot in its line
abbrev pub slot_in : List Conditional → Conditional → LineSlot
slot_in line x = line_slot x.slot x.condition (load_condition line x.slot)

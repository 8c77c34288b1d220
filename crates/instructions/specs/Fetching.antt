-- 01, 'Slots': what each slot reads, as the questions of its fetch, and what it then holds. Its condition is around it (crate
-- conditional).
use Rattle.std.specs.Prelude.{ℕ, suc, ◌+◌, Bool, not, List, [], ◌∷◌, eqb, leb}
use Rattle.bits.specs.Pick.{pick}
use Rattle.word.specs.Ialu.{address}
use Rattle.word.specs.Addresses.{quad_at}
use Rattle.slots.specs.Places.{Place, Base, Length, in_r, in_tr, in_thr, in_ialu, in_buffers, in_file, in_flags, in_memory, in_dab}
use Rattle.slots.specs.Slots.{between}
use Rattle.bits.specs.Ops.{is_store, is_circular}
use Rattle.slots.specs.declared.slot.Slot.{Slot}
use Rattle.slots.specs.declared.slot.Slot.TheVariants.{Alu, Shifter, Trellis, Tmax, Despread, Transfer}
use Rattle.slots.specs.declared.slot.Slot.TheVariants.{Arith, Buffer, Access, DabLoad}
use Rattle.machine.specs.Fetches.{Ask, asks, when}
use Rattle.layout.specs.Layout.{low_word, high_word}
use Rattle.instructions.specs.Held.{word, hold}

-- ---- ALU, shifter, CLU. Ops that use first only do not read second

unfoldable pub fetch_alu : ℕ → ℕ → ℕ → ℕ → Ask
fetch_alu b op f s =
    asks (in_r b f 1) λ x.
    asks (when (not (between 8 10 op)) (in_r b s 1)) λ y.
    hold (word 0 x ∷ word 0 y ∷ [])

unfoldable pub fetch_shifter : ℕ → ℕ → ℕ → ℕ → Ask
fetch_shifter b op f s =
    asks (in_r b f 1) λ x.
    asks (when (not (leb 8 op)) (in_r b s 1)) λ y.
    hold (word 0 x ∷ word 0 y ∷ [])

-- every CLU op reads its flag group, since TRSOV is never cleared
unfoldable pub fetch_trellis : ℕ → ℕ → ℕ → ℕ → Ask
fetch_trellis b m n q =
    asks (in_tr b m 2) λ x.
    asks (in_tr b n 2) λ y.
    asks (in_r b q 4) λ r.
    asks (in_flags 4 b) λ old.
    hold (word 0 x ∷ word 1 x ∷ word 0 y ∷ word 1 y ∷ word 0 r ∷ word 1 r ∷ word 2 r ∷ word 3 r ∷ word 0 old ∷ [])

unfoldable pub fetch_tmax : ℕ → ℕ → ℕ → Ask
fetch_tmax b f s =
    asks (in_tr b f 1) λ x.
    asks (in_tr b s 1) λ y.
    asks (in_flags 4 b) λ old.
    hold (word 0 x ∷ 0 ∷ word 0 y ∷ 0 ∷ 0 ∷ 0 ∷ 0 ∷ 0 ∷ word 0 old ∷ [])

-- TR target as it was, a pair of them in op 13 alone. The high register of THR pair p only where its shift is stored: where
-- the line loads the pair, DESPREAD is made of its low register alone
unfoldable pub fetch_despread : ℕ → ℕ → ℕ → ℕ → ℕ → Bool → Ask
fetch_despread b op t f p loaded =
    asks (in_tr b t 1) λ x.
    asks (when (eqb op 13) (in_tr b (suc t) 1)) λ x2.
    asks (in_thr b p 1) λ y.
    asks (when (not loaded) (in_thr b (suc p) 1)) λ y2.
    asks (in_r b f 4) λ r.
    asks (in_flags 4 b) λ old.
    hold (word 0 x ∷ word 0 x2 ∷ word 0 y ∷ word 0 y2 ∷ word 0 r ∷ word 1 r ∷ word 2 r ∷ word 3 r ∷ word 0 old ∷ [])

-- 1 and 2 read R first, 2 the next R too; 3 reads TR first
unfoldable pub fetch_transfer : ℕ → ℕ → ℕ → Ask
fetch_transfer b op f =
    asks (when (not (eqb op 3)) (in_r b f 1)) λ x.
    asks (when (eqb op 2) (in_r b (suc f) 1)) λ x2.
    asks (when (eqb op 3) (in_tr b f 1)) λ y.
    hold (word 0 x ∷ word 0 x2 ∷ word 0 y ∷ [])

-- ---- IALU

-- second is a register, or 32 for imm, which the line's words give
abbrev pub in_second : ℕ → ℕ → List Place
in_second ialu s = when (not (eqb s 32)) (in_ialu ialu s)

abbrev pub second_of : ℕ → ℕ → List ℕ → ℕ
second_of s i y = pick (eqb s 32) i (word 0 y)

-- the end of a circular buffer, by what was read of its base and its length: it is no place
abbrev pub end_of : List ℕ → List ℕ → ℕ
end_of b l = word 0 b + word 0 l

-- a circular op reads the length with its index's number, and the base only where that length is not 0; the end is held with them
unfoldable pub fetch_arith : ℕ → ℕ → ℕ → ℕ → ℕ → Ask
fetch_arith ialu op f s i =
    asks (in_ialu ialu f) λ x.
    asks (when (not (between 8 12 op)) (in_second ialu s)) λ y.
    asks (when (is_circular op) (in_buffers Length ialu f)) λ l.
    asks (when (not (eqb (word 0 l) 0)) (in_buffers Base ialu f)) λ b.
    hold (word 0 x ∷ second_of s i y ∷ word 0 b ∷ word 0 l ∷ 0 ∷ 0 ∷ 0 ∷ 0 ∷ low_word (end_of b l) ∷ high_word (end_of b l) ∷ [])

unfoldable pub fetch_buffer : ℕ → ℕ → Ask
fetch_buffer ialu f = asks (in_ialu ialu f) λ x. hold (word 0 x ∷ [])

-- a store reads the registers of its file, a load the memory words at its address
unfoldable pub fetch_access : ℕ → ℕ → ℕ → ℕ → ℕ → ℕ → ℕ → ℕ → Ask
fetch_access ialu op w file n f s i =
    asks (in_ialu ialu f) λ x.
    asks (in_second ialu s) λ y.
    asks (when (is_circular op) (in_buffers Length ialu f)) λ l.
    asks (when (not (eqb (word 0 l) 0)) (in_buffers Base ialu f)) λ b.
    asks (pick (is_store op) (in_file file n w) (in_memory (address op (word 0 x) (second_of s i y)) w)) λ c.
    hold
    (word 0 x ∷ second_of s i y ∷ word 0 b ∷ word 0 l ∷ word 0 c ∷ word 1 c ∷ word 2 c ∷ word 3 c
    ∷ low_word (end_of b l) ∷ high_word (end_of b l) ∷ [])

-- a load through a data alignment buffer (document 02, Note 6), which is circular: the buffer of its block, and the aligned quad that
-- holds its index. Its modifier is 4
unfoldable pub fetch_dab_load : ℕ → ℕ → ℕ → Ask
fetch_dab_load ialu b f =
    asks (in_ialu ialu f) λ x.
    asks (in_buffers Length ialu f) λ l.
    asks (when (not (eqb (word 0 l) 0)) (in_buffers Base ialu f)) λ base.
    asks (in_dab b) λ old.
    asks (in_memory (quad_at (word 0 x)) 4) λ new.
    hold
    (word 0 x ∷ 4 ∷ word 0 base ∷ word 0 l ∷ word 0 new ∷ word 1 new ∷ word 2 new ∷ word 3 new
    ∷ low_word (end_of base l) ∷ high_word (end_of base l) ∷ word 0 old ∷ word 1 old ∷ word 2 old ∷ word 3 old ∷ [])

-- ---- a slot's fetch; loaded: the line loads the THR pair that the slot shifts

abbrev pub fetch_of : Bool → Slot → Ask
fetch_of loaded (Alu b op t f s) = fetch_alu b op f s
fetch_of loaded (Shifter b op t f s) = fetch_shifter b op f s
fetch_of loaded (Trellis b op t f s q) = fetch_trellis b f s q
fetch_of loaded (Tmax b op t f s) = fetch_tmax b f s
fetch_of loaded (Despread b op t f p o) = fetch_despread b op t f p loaded
fetch_of loaded (Transfer b op t f) = fetch_transfer b op f
fetch_of loaded (Arith ialu op t f s i) = fetch_arith ialu op f s i
fetch_of loaded (Buffer ialu op t f) = fetch_buffer ialu f
fetch_of loaded (Access ialu op w file n f s i) = fetch_access ialu op w file n f s i
fetch_of loaded (DabLoad ialu b t f i) = fetch_dab_load ialu b f

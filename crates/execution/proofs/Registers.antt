-- The register places that a slot stores are neither flag groups nor memory words.
use mathlib.Core.Path.{◌≡◌}
use mathlib.Core.Bool.{Bool, true, false}
use mathlib.Core.List.{List, [], ◌++◌}
use Prim.Native.Nat.{ℕ, zero, suc, ◌+◌, ◌*◌, ◌<◌}
use native.Mathlib.Omega.{arith}
use lib.Dec.{ltb, eqb}
use Rattle.bits.specs.Pick.{pick}
use Rattle.slots.specs.Lists.{All}
use Rattle.slots.specs.Places.{File, R, TR, J, K, THR, Base, Length, Flags, Memory, Dab, Place, file_number, places, in_r, in_thr, ialu_file, in_ialu, access_file, in_dab}
use Rattle.slots.specs.Stores.{stored}
use Rattle.bits.specs.Ops.{is_store, keeps_index, despread_words, old_words}
use Rattle.slots.specs.declared.slot.Slot.{Slot}
use Rattle.slots.specs.declared.slot.Slot.TheVariants.{Alu, Shifter, Trellis, Tmax, Despread, Transfer}
use Rattle.slots.specs.declared.slot.Slot.TheVariants.{Arith, Buffer, Access, DabLoad}

-- a place of a register: its file is neither the flag groups' nor memory
abbrev RegisterFile : ℕ → Type 0
RegisterFile n = (n ≡ file_number Flags → ⊥) × (n ≡ file_number Memory → ⊥)

abbrev pub InRegisters : Place → Type 0
InRegisters p = RegisterFile (file_number p.file)

-- the files before the flag groups'
before_flags : (n : ℕ) → n < 7 → RegisterFile n
before_flags n h = (λ e. omega arith, λ e. omega arith)

pub in_span : (P : ℕ → Type 0) (f : File) (i n : ℕ) → P (file_number f) → All (λ p. P (file_number p.file)) (places f i n)
in_span P f i zero h = tt
in_span P f i (suc n) h = (h, in_span P f (suc i) n h)

-- n registers of a file from number i on
pub registers : (f : File) (i n : ℕ) → file_number f < 7 → All InRegisters (places f i n)
registers f i n h = in_span RegisterFile f i n (before_flags (file_number f) h)

before : (f : File) (i n : ℕ) (qs : List Place) → RegisterFile (file_number f) → All InRegisters qs
    → All InRegisters (places f i n ++ qs)
before f i zero qs h b = b
before f i (suc n) qs h b = (h, before f (suc i) n qs h b)

then : (f : File) (i n : ℕ) (qs : List Place) → file_number f < 7 → All InRegisters qs
    → All InRegisters (places f i n ++ qs)
then f i n qs h b = before f i n qs (before_flags (file_number f) h) b

pub ialu_file_lem : (b : Bool) → file_number (pick b J K) < 7
ialu_file_lem true = omega arith
ialu_file_lem false = omega arith

pub access_file_lem : (a b : Bool) → file_number (pick a R (pick b J K)) < 7
access_file_lem true b = omega arith
access_file_lem false b = ialu_file_lem b

buffer_file : (b : Bool) → file_number (pick b Base Length) < 7
buffer_file true = omega arith
buffer_file false = omega arith

dab_file : RegisterFile (file_number Dab)
dab_file = (λ e. omega arith, λ e. omega arith)

pub dab_registers : (b : ℕ) → All InRegisters (in_dab b)
dab_registers b = in_span RegisterFile Dab (4 * b) 4 dab_file

pub stored_registers : (l : Bool) (x : Slot) → All InRegisters (stored l x)
unfolding stored
stored_registers l (Alu b op t f s) = registers R (32 * b + t) 1 (omega arith)
stored_registers l (Shifter b op t f s) = registers R (32 * b + t) (pick (eqb op 7) 0 1) (omega arith)
stored_registers l (Trellis b op t f s q) = registers TR (32 * b + t) 2 (omega arith)
stored_registers l (Tmax b op t f s) = registers R (32 * b + t) 1 (omega arith)
stored_registers l (Despread b op t f p o) =
    then TR (32 * b + t) (despread_words op) (in_r b o (old_words op) ++ in_thr b p (pick l 0 2)) (omega arith)
    (then R (32 * b + o) (old_words op) (in_thr b p (pick l 0 2)) (omega arith)
    (registers THR (4 * b + p) (pick l 0 2) (omega arith)))
stored_registers l (Transfer b op t f) =
    then TR (32 * b + t) (pick (eqb op 1) 1 0) (in_r b t (pick (eqb op 3) 1 0) ++ in_thr b t (pick (eqb op 2) 2 0)) (omega arith)
    (then R (32 * b + t) (pick (eqb op 3) 1 0) (in_thr b t (pick (eqb op 2) 2 0)) (omega arith)
    (registers THR (4 * b + t) (pick (eqb op 2) 2 0) (omega arith)))
stored_registers l (Arith ialu op t f s i) = registers (ialu_file ialu) t (pick (eqb t 31) 0 1) (ialu_file_lem (eqb ialu 0))
stored_registers l (Buffer ialu op t f) =
    registers (pick (eqb op 15) Base Length) (4 * ialu + t) 1 (buffer_file (eqb op 15))
stored_registers l (Access ialu op w file n f s i) =
    then (access_file file) (pick (ltb file 2) (32 * file) 0 + n) (pick (is_store op) 0 w)
    (pick (keeps_index op) [] (in_ialu ialu f)) (access_file_lem (ltb file 2) (eqb file 2)) (index (keeps_index op))
  where
    index : (c : Bool) → All InRegisters (pick c [] (in_ialu ialu f))
    index true = tt
    index false = registers (ialu_file ialu) f (pick (eqb f 31) 0 1) (ialu_file_lem (eqb ialu 0))
stored_registers l (DabLoad ialu b t f i) =
    then R (32 * b + t) 4 (in_dab b ++ in_ialu ialu f) (omega arith)
    (before Dab (4 * b) 4 (in_ialu ialu f) dab_file
    (registers (ialu_file ialu) f (pick (eqb f 31) 0 1) (ialu_file_lem (eqb ialu 0))))

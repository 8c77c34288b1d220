-- What an op alone tells of its slot.
use Rattle.std.specs.Prelude.{ℕ, Bool, ◌||◌, eqb}
use Rattle.bits.specs.Pick.{pick}

-- IALU ops 19, 20, 22 store to memory; the other accesses load
abbrev pub is_store : ℕ → Bool
is_store op = eqb op 19 || eqb op 20 || eqb op 22

-- before-modify, IALU ops 18 and 20, is without update of the index
abbrev pub keeps_index : ℕ → Bool
keeps_index op = eqb op 18 || eqb op 20

-- IALU ops with circular addressing: circular add, load and store
abbrev pub is_circular : ℕ → Bool
is_circular op = eqb op 13 || eqb op 21 || eqb op 22

-- DESPREAD's TRs, and the Rs that take their old words: CLU op 13 is on pairs, op 11 keeps no old word
abbrev pub despread_words : ℕ → ℕ
despread_words op = pick (eqb op 13) 2 1

abbrev pub old_words : ℕ → ℕ
old_words op = pick (eqb op 11) 0 (despread_words op)

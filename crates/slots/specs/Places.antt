-- 01, 'State and places': a place is one register (R, TR, THR, IALU, base or length; not IALU 31), one flag group, one memory word,
-- or the data alignment buffer of a block (document 02, Note 6). A buffer's four words are listed, which no slot reads or stores apart;
-- to count them as one place makes no difference (theorems/proofs/OnePlace.antt).
use Rattle.std.specs.Prelude.{ℕ, zero, suc, ◌+◌, ◌*◌, List, [], ◌∷◌, Bool, false, ◌&&◌, ◌||◌, get_or, ltb, eqb}
use Rattle.bits.specs.Pick.{pick}
use Rattle.slots.specs.Lists.{some}

-- R and TR: X's 32 registers and then Y's; THR: X's four and then Y's; base and length: J's four and then K's; Dab: the words of the
-- data alignment buffers, X's four and then Y's
pub data File : Type 0 where
  R TR THR J K Base Length Flags Memory Dab : File

pub record Place : Type 0 where
  pub file : File
  pub index : ℕ

abbrev pub place : File → ℕ → Place
place f i = record { file = f; index = i }

-- a number for each file, by which files are compared; memory has that of the ends, which are no places, in the state's layout
abbrev pub file_number : File → ℕ
file_number R = 0
file_number TR = 1
file_number THR = 2
file_number J = 3
file_number K = 4
file_number Base = 5
file_number Length = 6
file_number Flags = 7
file_number Memory = 8
file_number Dab = 9

abbrev pub file_list : List File
file_list = R ∷ TR ∷ THR ∷ J ∷ K ∷ Base ∷ Length ∷ Flags ∷ Memory ∷ Dab ∷ []

abbrev pub file_of : ℕ → File
file_of n = get_or file_list n Memory

abbrev pub same_place : Place → Place → Bool
same_place p q = eqb (file_number p.file) (file_number q.file) && eqb p.index q.index

-- two lists with a place in common
abbrev pub meet : List Place → List Place → Bool
meet [] qs = false
meet (p ∷ ps) qs = some (same_place p) qs || meet ps qs

-- n places of a file, from number i on
abbrev pub places : File → ℕ → ℕ → List Place
places f i zero = []
places f i (suc n) = place f i ∷ places f (suc i) n

-- n registers from number i on, of block b (0 X, 1 Y)
abbrev pub in_r : ℕ → ℕ → ℕ → List Place
in_r b i n = places R (32 * b + i) n

abbrev pub in_tr : ℕ → ℕ → ℕ → List Place
in_tr b i n = places TR (32 * b + i) n

abbrev pub in_thr : ℕ → ℕ → ℕ → List Place
in_thr b i n = places THR (4 * b + i) n

-- register i of an IALU (0 J, 1 K): 31 is no place
abbrev pub ialu_file : ℕ → File
ialu_file ialu = pick (eqb ialu 0) J K

abbrev pub in_ialu : ℕ → ℕ → List Place
in_ialu ialu i = places (ialu_file ialu) i (pick (eqb i 31) 0 1)

-- the base or length register i of an IALU
abbrev pub in_buffers : File → ℕ → ℕ → List Place
in_buffers f ialu i = places f (4 * ialu + i) 1

-- n registers from number i on, in the file of an access: 0 XR, 1 YR, 2 J, 3 K
abbrev pub access_file : ℕ → File
access_file file = pick (ltb file 2) R (pick (eqb file 2) J K)

abbrev pub in_file : ℕ → ℕ → ℕ → List Place
in_file file i n = places (access_file file) (pick (ltb file 2) (32 * file) 0 + i) n

-- the flag group of a unit, by its number less 1: u is 0 for the ALU, 2 shifter, 4 CLU, 6 IALU, and b adds 1 for Y or K
abbrev pub in_flags : ℕ → ℕ → List Place
in_flags u b = places Flags (u + b) 1

-- the data alignment buffer of block b
abbrev pub in_dab : ℕ → List Place
in_dab b = places Dab (4 * b) 4

-- n memory words from address a on
abbrev pub in_memory : ℕ → ℕ → List Place
in_memory a n = places Memory a n

-- The layout of a state in words, as the runs, callers in C and vector files have it: its files one after the other, by a
-- table with a row a file. The ends, which are no places, have a row too, before that of the data alignment buffers.
use Rattle.std.specs.Prelude.{ℕ, ◌+◌, ◌*◌, ◌/◌, ◌%◌, List, [], ◌∷◌, ◌++◌, length, take, drop, get_or, eqb}
use Rattle.bits.specs.Pick.{pick}
use Rattle.slots.specs.Places.{File, R, TR, THR, J, K, Base, Length, Flags, Dab, file_number}
use Rattle.machine.specs.Machine.{Machine, machine, zero_state}
use Rattle.machine.specs.declared.state.State.{State}
use Rattle.layout.specs.declared.table.RegisterFile.{RegisterFile}
use Rattle.layout.specs.declared.table.RegisterFile.TheVariants as named

-- ---- the table: the sizes of the files, by their numbers, and of the ends' row

abbrev pub sizes : List ℕ
sizes = 64 ∷ 64 ∷ 8 ∷ 31 ∷ 31 ∷ 8 ∷ 8 ∷ 8 ∷ 16 ∷ 8 ∷ []

-- the number of the ends' row, which is memory's and so no other file's; the number of the words of a state
abbrev pub end_row : ℕ
end_row = 8

abbrev pub state_words : ℕ
state_words = 246

-- the file that the code names
abbrev pub file_is : RegisterFile → File
file_is named.R = R
file_is named.TR = TR
file_is named.THR = THR
file_is named.J = J
file_is named.K = K
file_is named.Base = Base
file_is named.Length = Length
file_is named.Flags = Flags
file_is named.Dab = Dab

-- ---- what follows from it

-- each row begins where the one before it ends
abbrev pub starts : ℕ → List ℕ → List ℕ
starts s [] = []
starts s (n ∷ ns) = s ∷ starts (s + n) ns

abbrev pub size_at : ℕ → ℕ
size_at n = get_or sizes n 0

abbrev pub start_at : ℕ → ℕ
start_at n = get_or (starts 0 sizes) n 0

-- the words of row n
abbrev pub row : List ℕ → ℕ → List ℕ
row ws n = take (size_at n) (drop (start_at n) ws)

-- ---- numbers of two words, low and high

abbrev pub low_word : ℕ → ℕ
low_word n = n % 4294967296

abbrev pub high_word : ℕ → ℕ
high_word n = n / 4294967296

abbrev pub from_words : ℕ → ℕ → ℕ
from_words l h = l + 4294967296 * h

-- the ends that words are, and back
abbrev pub ends_of : List ℕ → List ℕ
ends_of [] = []
ends_of (l ∷ []) = []
ends_of (l ∷ h ∷ ws) = from_words l h ∷ ends_of ws

abbrev pub words_of_ends : List ℕ → List ℕ
words_of_ends [] = []
words_of_ends (n ∷ ns) = low_word n ∷ high_word n ∷ words_of_ends ns

-- ---- a state from words, and back

unfoldable pub state_of : List ℕ → State
state_of ws =
    record {
      r = row ws (file_number R);
      tr = row ws (file_number TR);
      thr = row ws (file_number THR);
      j = row ws (file_number J);
      k = row ws (file_number K);
      base = row ws (file_number Base);
      length = row ws (file_number Length);
      flags = row ws (file_number Flags);
      end = ends_of (row ws end_row);
      dab = row ws (file_number Dab);
    }

unfoldable pub words_of_state : State → List ℕ
words_of_state s =
    s.r ++ s.tr ++ s.thr ++ s.j ++ s.k ++ s.base ++ s.length ++ s.flags ++ words_of_ends s.end
    ++ s.dab

-- a state from words that may be of another number, and back
abbrev pub state_from : List ℕ → State
state_from ws = pick (eqb (length ws) state_words) (state_of ws) zero_state

abbrev pub words_read : List ℕ → List ℕ → List ℕ
words_read ws files = pick (eqb (length ws) state_words) ws files

abbrev pub state_written : State → List ℕ → List ℕ
state_written s ws = pick (eqb (length ws) state_words) (words_of_state s) ws

-- the machine whose state is these words, with a memory
unfoldable pub machine_of : List ℕ → List ℕ → Machine
machine_of ws memory = machine (state_of ws) memory

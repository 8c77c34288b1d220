-- 01, 'State and places': the machine is the state and the memory; each place of it can be read and stored. An end of a buffer
-- is no place (document 02, Note 2): a store renews it.
use Rattle.std.specs.Prelude.{ℕ, zero, suc, ◌+◌, ◌≡◌, List, [], ◌∷◌, Bool, ◌||◌, get_or, set, eqb}
use Rattle.bits.specs.Pick.{pick}
use Rattle.slots.specs.Places.{File, R, TR, THR, J, K, Base, Length, Flags, Memory, Dab, Place, place, file_number}
use Rattle.machine.specs.declared.state.State.{State}

pub record Machine : Type 0 where
  pub state : State
  pub memory : List ℕ

abbrev pub machine : State → List ℕ → Machine
machine s m = record { state = s; memory = m }

-- ---- files

-- the contents of a file
abbrev pub view : Machine → File → List ℕ
view m R = m.state.r
view m TR = m.state.tr
view m THR = m.state.thr
view m J = m.state.j
view m K = m.state.k
view m Base = m.state.base
view m Length = m.state.length
view m Flags = m.state.flags
view m Memory = m.memory
view m Dab = m.state.dab

-- the machine with given contents of its files, and given ends
abbrev pub make : (File → List ℕ) → List ℕ → Machine
make g ends =
    machine
    record {
      r = g R;
      tr = g TR;
      thr = g THR;
      j = g J;
      k = g K;
      base = g Base;
      length = g Length;
      flags = g Flags;
      end = ends;
      dab = g Dab;
    }
    (g Memory)

abbrev pub same_file : File → File → Bool
same_file f g = eqb (file_number f) (file_number g)

-- ---- places

-- what a place holds: 0 past the file's end
unfoldable pub get : Machine → Place → ℕ
get m p = get_or (view m p.file) p.index 0

-- the place's file with a value in it: nothing is stored past the file's end
unfoldable pub put_alone : Machine → Place → ℕ → Machine
put_alone m p v = make (λ f. pick (same_file p.file f) (set (view m f) p.index v) (view m f)) m.state.end

-- the end of buffer i renewed: base + length, as an exact number
unfoldable pub renew : ℕ → Machine → Machine
renew i m = make (view m) (set m.state.end i (get m (place Base i) + get m (place Length i)))

abbrev pub of_buffer : File → Bool
of_buffer f = same_file f Base || same_file f Length

-- a value put in a place; where it is a base or a length, the end of its buffer is renewed from the two that the store leaves
unfoldable pub put : Machine → Place → ℕ → Machine
put m p v = pick (of_buffer p.file) (renew p.index (put_alone m p v)) (put_alone m p v)

-- ---- ends

-- base + length of each buffer
abbrev pub sums : List ℕ → List ℕ → List ℕ
sums [] lengths = []
sums (b ∷ bases) [] = []
sums (b ∷ bases) (l ∷ lengths) = (b + l) ∷ sums bases lengths

-- every end is base + length
abbrev pub EndsTrue : State → Type 0
EndsTrue s = s.end ≡ sums s.base s.length

-- all ends put right, and nothing else changed: what a run does on entry
unfoldable pub put_right : Machine → Machine
put_right m = make (view m) (sums (view m Base) (view m Length))

-- ---- the zero state

abbrev pub zeros : ℕ → List ℕ
zeros zero = []
zeros (suc n) = 0 ∷ zeros n

abbrev pub zero_state : State
zero_state =
    record {
      r = zeros 64;
      tr = zeros 64;
      thr = zeros 8;
      j = zeros 31;
      k = zeros 31;
      base = zeros 8;
      length = zeros 8;
      flags = zeros 8;
      end = zeros 8;
      dab = zeros 8;
    }

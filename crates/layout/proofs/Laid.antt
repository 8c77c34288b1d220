-- The two laws of the layout: a word of the array is a place of the machine, and storing it stores that place and no other.
-- Each is proved once, over any file: what is used of the table is that every file begins where the one before it ends, and
-- that there are as many ends as base registers and as length registers.
use mathlib.Core.Path.{◌≡◌, refl, ap, ◌∙◌, sym}
use mathlib.Core.Bool.{Bool, true, false, ◌||◌, true≢false}
use mathlib.Core.List.{List, [], ◌∷◌}
use Prim.Native.Nat.{ℕ, zero, suc, ◌+◌, ◌-◌, ◌≤◌, ◌<◌}
use native.Mathlib.Omega.{arith}
use lib.ListN.{length, get_or, set, take, drop, length-take, get_or-eq_default, get_or-map}
use lib.Seq.{get_or-take, get_or-drop, set_out, take-set-lt, take-set-le, drop-set-add, drop-set-lt}
use lib.Dec.{eqb}
use borrow.Author.Tests.{eqb-true, eqb-false, ne_eqb}
use Rattle.bits.specs.Pick.{pick}
use Rattle.bits.proofs.Integers.{by_order}
use Rattle.slots.specs.Places.{File, Memory, place, file_number, file_list, file_of}
use Rattle.machine.specs.Machine.{view, get, put_alone, of_buffer, put}
use Rattle.machine.proofs.Places.{view_make, view_alone, end_alone, view_put, end_put, by_files}
use Rattle.layout.specs.Layout.{sizes, state_words, end_row, file_is, starts, size_at, start_at, row, ends_of, state_of, machine_of}
use Rattle.layout.specs.declared.table.RegisterFile.{RegisterFile}
use Rattle.layout.specs.declared.table.RegisterFile.TheVariants as named

-- ---- the table: files follow each other

abbrev total : List ℕ → ℕ
total [] = 0
total (n ∷ ns) = n + total ns

from_start : (l : List ℕ) (s m : ℕ) → m < length l → s ≤ get_or (starts s l) m 0
from_start [] s m h = absurd (omega arith)
from_start (n ∷ l) s zero h = omega arith
from_start (n ∷ l) s (suc m) h = let e = from_start l (s + n) m (omega arith) in omega arith

follows : (l : List ℕ) (s n m : ℕ) → n < m → m < length l → get_or (starts s l) n 0 + get_or l n 0 ≤ get_or (starts s l) m 0
follows [] s n m h k = absurd (omega arith)
follows (x ∷ l) s n zero h k = absurd (omega arith)
follows (x ∷ l) s zero (suc m) h k = from_start l (s + x) m (omega arith)
follows (x ∷ l) s (suc n) (suc m) h k = follows l (s + x) n m (omega arith) (omega arith)

inside : (l : List ℕ) (s n : ℕ) → n < length l → get_or (starts s l) n 0 + get_or l n 0 ≤ s + total l
inside [] s n h = absurd (omega arith)
inside (x ∷ l) s zero h = omega arith
inside (x ∷ l) s (suc n) h = let e = inside l (s + x) n (omega arith) in omega arith

-- the row of a file: none of memory, whose number the ends' row has
pub record FileRow (n : ℕ) : Type 0 where
  pub row_below : n < length sizes
  pub not_ends : n ≡ end_row → ⊥

fits : (n : ℕ) → FileRow n → start_at n + size_at n ≤ state_words
fits n h = inside sizes 0 n h.row_below

-- the files stand in the order of their numbers
abbrev from : ℕ → ℕ → List ℕ
from s zero = []
from s (suc k) = s ∷ from (suc s) k

from_get : (s k n d : ℕ) → n < k → get_or (from s k) n d ≡ s + n
from_get s zero n d h = absurd (omega arith)
from_get s (suc k) zero d h = omega arith
from_get s (suc k) (suc n) d h = from_get (suc s) k n d (omega arith) ∙ next
  where
    next : suc s + n ≡ s + suc n
    next = omega arith

number_of : (n : ℕ) → FileRow n → file_number (file_of n) ≡ n
number_of n h =
    sym (get_or-map file_number file_list n Memory) ∙ from_get 0 (length sizes) n end_row h.row_below ∙ omega arith

not_memory : (n : ℕ) → FileRow n → eqb n end_row ≡ false
not_memory n h = ne_eqb n end_row h.not_ends

-- ---- parts of a list: a store in another row, and in this one

above : (ws : List ℕ) (s n k v : ℕ) → s + n ≤ k → take n (drop s (set ws k v)) ≡ take n (drop s ws)
above ws s n k v h =
    let e : s + (k - s) ≡ k = omega arith in
    rw (← e, drop-set-add, take-set-le n (drop s ws) (k - s) v (omega arith))

below : (ws : List ℕ) (s n k v : ℕ) → k < s → take n (drop s (set ws k v)) ≡ take n (drop s ws)
below ws s n k v h = rw (drop-set-lt s ws k v h)

within : (ws : List ℕ) (s n i v : ℕ) → i < n → take n (drop s (set ws (s + i) v)) ≡ set (take n (drop s ws)) i v
within ws s n i v h = rw (drop-set-add, take-set-lt n (drop s ws) i v h)

-- ---- the laws

-- what a file holds: memory, or its row
abbrev pub contents : List ℕ → List ℕ → File → List ℕ
contents ws mem f = pick (eqb (file_number f) end_row) mem (row ws (file_number f))

pub view_laid : (ws mem : List ℕ) (f : File) → view (machine_of ws mem) f ≡ contents ws mem f
unfolding machine_of state_of
view_laid ws mem f = view_make (contents ws mem) (ends_of (row ws end_row)) f

pub ends_laid : (ws mem : List ℕ) → (machine_of ws mem).state.end ≡ ends_of (row ws end_row)
unfolding machine_of state_of
ends_laid ws mem = refl

-- the words of file n
file_laid : (ws mem : List ℕ) (n : ℕ) → FileRow n → view (machine_of ws mem) (file_of n) ≡ row ws n
file_laid ws mem n h = rw (view_laid ws mem (file_of n), number_of n h, not_memory n h)

word_read : (ws mem : List ℕ) (n i : ℕ) → FileRow n → i < size_at n
    → get_or ws (start_at n + i) 0 ≡ get (machine_of ws mem) (place (file_of n) i)
unfolding get
word_read ws mem n i h l =
    rw (file_laid ws mem n h, get_or-take (size_at n) (drop (start_at n) ws) i 0 l, get_or-drop (start_at n) ws i 0)

word_past : (ws mem : List ℕ) (n i : ℕ) → FileRow n → size_at n ≤ i → 0 ≡ get (machine_of ws mem) (place (file_of n) i)
unfolding get
word_past ws mem n i h l =
    let e : length (row ws n) ≤ i = simp length-take (omega arith) in
    rw (file_laid ws mem n h) (sym (get_or-eq_default (row ws n) 0 e))

-- the words of row m after a store in row n
pub row_stored : (ws : List ℕ) (n m i v : ℕ) (d : Bool) → eqb n m ≡ d → n < length sizes → i < size_at n
    → row (set ws (start_at n + i) v) m ≡ pick d (set (row ws m) i v) (row ws m)
row_stored ws n m i v true q h l = rw (← eqb-true n m q) (within ws (start_at n) (size_at n) i v l)
row_stored ws n m i v false q h l =
    by_order _ (length sizes) m (λ k. rw (get_or-eq_default sizes 0 k)) λ k.
    by_order _ n m
    (λ o. let e = follows sizes 0 n m (lt_of_le_ne o (eqb-false n m q)) k in below ws (start_at m) (size_at m) (start_at n + i) v (omega arith))
    (λ o. let e = follows sizes 0 m n o h in above ws (start_at m) (size_at m) (start_at n + i) v (omega arith))
  where
    lt_of_le_ne : {a b : ℕ} → a ≤ b → (a ≡ b → ⊥) → a < b
    lt_of_le_ne {a} {b} o d = by_order _ b a (λ p. absurd (d (omega arith))) (λ p. p)

-- and where the file has no word i
row_kept : (ws : List ℕ) (n m i v : ℕ) (d : Bool) → eqb n m ≡ d → size_at n ≤ i → row ws m ≡ pick d (set (row ws m) i v) (row ws m)
row_kept ws n m i v true q l =
    let e : length (row ws n) ≤ i = simp length-take (omega arith) in
    rw (← eqb-true n m q) (sym (set_out (row ws n) i v e))
row_kept ws n m i v false q l = refl

-- memory is none of the files
beside : (b d : Bool) (n m i v : ℕ) (mem p q : List ℕ) → eqb m end_row ≡ b → eqb n m ≡ d → FileRow n
    → p ≡ pick d (set q i v) q → pick b mem p ≡ pick d (set (pick b mem q) i v) (pick b mem q)
beside true true n m i v mem p q e f h r =
    absurd (h.not_ends (eqb-true n m f ∙ eqb-true m end_row e))
beside true false n m i v mem p q e f h r = refl
beside false d n m i v mem p q e f h r = r

-- a buffer's file has as many words as there are ends
buffer_size : (n : ℕ) → (eqb n 5 || eqb n 6) ≡ true → size_at n ≡ 8
buffer_size n q = by_cases (eqb n 5) (eqb n 6) refl refl q
  where
    by_cases : (a b : Bool) → eqb n 5 ≡ a → eqb n 6 ≡ b → (a || b) ≡ true → size_at n ≡ 8
    by_cases true b e f t = rw (eqb-true n 5 e)
    by_cases false true e f t = rw (eqb-true n 6 f)
    by_cases false false e f t = absurd (true≢false (sym t))

few_ends : (ws : List ℕ) → length (ends_of ws) + length (ends_of ws) ≤ length ws
few_ends [] = omega arith
few_ends (l ∷ []) = omega arith
few_ends (l ∷ h ∷ ws) = let e = few_ends ws in omega arith

pub ends_few : (ws : List ℕ) → length (ends_of (row ws end_row)) ≤ 8
ends_few ws =
    let e = few_ends (row ws end_row) in
    let f : length (row ws end_row) ≤ 16 = simp length-take (omega arith) in
    omega arith

word_stored : (ws mem : List ℕ) (n i v : ℕ) → FileRow n → i < size_at n
    → machine_of (set ws (start_at n + i) v) mem ≡ put_alone (machine_of ws mem) (place (file_of n) i) v
word_stored ws mem n i v h l =
    by_files _ _
    (λ g. simp (view_alone, view_laid)
    (rw (number_of n h)
    (beside _ _ n (file_number g) i v mem _ _ refl refl h (row_stored ws n (file_number g) i v _ refl h.row_below l))))
    (ends_laid (set ws (start_at n + i) v) mem
    ∙ ap ends_of (row_stored ws n end_row i v false (not_memory n h) h.row_below l)
    ∙ sym (end_alone (machine_of ws mem) (place (file_of n) i) v ∙ ends_laid ws mem))

word_kept : (ws mem : List ℕ) (n i v : ℕ) → FileRow n → size_at n ≤ i
    → machine_of ws mem ≡ put (machine_of ws mem) (place (file_of n) i) v
word_kept ws mem n i v h l =
    by_files _ _
    (λ g. simp (view_put, view_laid)
    (rw (number_of n h)
    (beside _ _ n (file_number g) i v mem _ _ refl refl h (row_kept ws n (file_number g) i v _ refl l))))
    (sym (end_put (machine_of ws mem) (place (file_of n) i) v ∙ none (of_buffer (file_of n)) _ refl))
  where
    eight : of_buffer (file_of n) ≡ true → size_at n ≡ 8
    eight q = buffer_size n (rw (number_of n h) at q)

    none : (b : Bool) (x : ℕ) → of_buffer (file_of n) ≡ b
        → pick b (set (machine_of ws mem).state.end i x) (machine_of ws mem).state.end ≡ (machine_of ws mem).state.end
    none false x q = refl
    none true x q =
        let e = rw (eight q) at l in
        set_out (machine_of ws mem).state.end i x (rw (ends_laid ws mem) (omega (arith, ends_few ws)))

-- ---- memory

pub memory_read : (ws mem : List ℕ) (i : ℕ) → get_or mem i 0 ≡ get (machine_of ws mem) (place Memory i)
unfolding get machine_of
memory_read ws mem i = refl

pub memory_stored : (ws mem : List ℕ) (i v : ℕ) → machine_of ws (set mem i v) ≡ put (machine_of ws mem) (place Memory i) v
unfolding put put_alone machine_of
memory_stored ws mem i v = refl

pub past_end : (l : List ℕ) (i : ℕ) → length l ≤ i → 0 ≡ get_or l i 0
past_end l i h = sym (get_or-eq_default l 0 h)

pub memory_kept : (ws mem : List ℕ) (i v : ℕ) → length mem ≤ i → machine_of ws mem ≡ put (machine_of ws mem) (place Memory i) v
memory_kept ws mem i v h = sym (sym (memory_stored ws mem i v) ∙ ap (machine_of ws) (set_out mem i v h))

-- ---- the same by the code's names of the files

file_row : (f : RegisterFile) → FileRow (file_number (file_is f))
file_row named.R = record { row_below = omega arith; not_ends = λ e. omega arith }
file_row named.TR = record { row_below = omega arith; not_ends = λ e. omega arith }
file_row named.THR = record { row_below = omega arith; not_ends = λ e. omega arith }
file_row named.J = record { row_below = omega arith; not_ends = λ e. omega arith }
file_row named.K = record { row_below = omega arith; not_ends = λ e. omega arith }
file_row named.Base = record { row_below = omega arith; not_ends = λ e. omega arith }
file_row named.Length = record { row_below = omega arith; not_ends = λ e. omega arith }
file_row named.Flags = record { row_below = omega arith; not_ends = λ e. omega arith }
file_row named.Dab = record { row_below = omega arith; not_ends = λ e. omega arith }

file_back : (f : RegisterFile) → file_of (file_number (file_is f)) ≡ file_is f
file_back named.R = refl
file_back named.TR = refl
file_back named.THR = refl
file_back named.J = refl
file_back named.K = refl
file_back named.Base = refl
file_back named.Length = refl
file_back named.Flags = refl
file_back named.Dab = refl

module _ (f : RegisterFile) where
  abbrev number : ℕ
  number = file_number (file_is f)

  pub cell_fits : start_at number + size_at number ≤ state_words
  cell_fits = fits number (file_row f)

  pub cell_read : (ws mem : List ℕ) (i : ℕ) → i < size_at number
      → get_or ws (start_at number + i) 0 ≡ get (machine_of ws mem) (place (file_is f) i)
  cell_read ws mem i l = rw (file_back f) at (word_read ws mem number i (file_row f) l)

  pub cell_past : (ws mem : List ℕ) (i : ℕ) → size_at number ≤ i → 0 ≡ get (machine_of ws mem) (place (file_is f) i)
  cell_past ws mem i l = rw (file_back f) at (word_past ws mem number i (file_row f) l)

  pub cell_stored : (ws mem : List ℕ) (i v : ℕ) → i < size_at number
      → machine_of (set ws (start_at number + i) v) mem ≡ put_alone (machine_of ws mem) (place (file_is f) i) v
  cell_stored ws mem i v l = rw (file_back f) at (word_stored ws mem number i v (file_row f) l)

  pub cell_kept : (ws mem : List ℕ) (i v : ℕ) → size_at number ≤ i
      → machine_of ws mem ≡ put (machine_of ws mem) (place (file_is f) i) v
  cell_kept ws mem i v l = rw (file_back f) at (word_kept ws mem number i v (file_row f) l)

  pub buffer_cell : of_buffer (file_is f) ≡ true → size_at number ≡ 8
  buffer_cell q = buffer_size number q

-- Laws of ends (document 02, Note 2): stores keep them true, and putting them right makes them so and changes nothing else.
use mathlib.Core.Path.{◌≡◌, refl, ap, ◌∙◌, sym}
use mathlib.Core.Bool.{Bool, true, false, ◌||◌}
use mathlib.Core.List.{List, [], ◌∷◌}
use Prim.Native.Nat.{ℕ, zero, suc, ◌+◌, ◌<◌}
use native.Mathlib.Omega.{arith}
use lib.ListN.{length, get_or, set}
use Rattle.bits.specs.Pick.{pick}
use Rattle.slots.specs.Places.{File, R, TR, THR, J, K, Base, Length, Flags, Memory, Dab, Place}
use Rattle.machine.specs.Machine.{Machine, view, same_file, get, put, sums, EndsTrue, put_right}
use Rattle.machine.specs.Fetches.{Write, puts}
use Rattle.machine.proofs.Places.{by_files, view_make, view_put, end_put}

-- ---- one sum

-- a base stored, or a length: the sum at its index is made of what is stored, all others are kept
base_in_sums : (bs ls : List ℕ) (i v : ℕ) → set (sums bs ls) i (get_or (set bs i v) i 0 + get_or ls i 0) ≡ sums (set bs i v) ls
base_in_sums [] ls i v = refl
base_in_sums (b ∷ bs) [] zero v = refl
base_in_sums (b ∷ bs) [] (suc i) v = refl
base_in_sums (b ∷ bs) (l ∷ ls) zero v = refl
base_in_sums (b ∷ bs) (l ∷ ls) (suc i) v = ap (λ (r : List ℕ). (b + l) ∷ r) (base_in_sums bs ls i v)

length_in_sums : (bs ls : List ℕ) (i v : ℕ) → set (sums bs ls) i (get_or bs i 0 + get_or (set ls i v) i 0) ≡ sums bs (set ls i v)
length_in_sums [] ls i v = refl
length_in_sums (b ∷ bs) [] i v = refl
length_in_sums (b ∷ bs) (l ∷ ls) zero v = refl
length_in_sums (b ∷ bs) (l ∷ ls) (suc i) v = ap (λ (r : List ℕ). (b + l) ∷ r) (length_in_sums bs ls i v)

-- the sum of one buffer, and how many there are
pub sums_at : (bs ls : List ℕ) (i : ℕ) → i < length bs → i < length ls → get_or (sums bs ls) i 0 ≡ get_or bs i 0 + get_or ls i 0
sums_at [] ls i h k = absurd (omega arith)
sums_at (b ∷ bs) [] i h k = absurd (omega arith)
sums_at (b ∷ bs) (l ∷ ls) zero h k = refl
sums_at (b ∷ bs) (l ∷ ls) (suc i) h k = sums_at bs ls i (omega arith) (omega arith)

pub sums_length : (bs ls : List ℕ) (n : ℕ) → length bs ≡ n → length ls ≡ n → length (sums bs ls) ≡ n
sums_length [] ls n h k = h
sums_length (b ∷ bs) [] n h k = absurd (omega arith)
sums_length (b ∷ bs) (l ∷ ls) zero h k = absurd (omega arith)
sums_length (b ∷ bs) (l ∷ ls) (suc n) h k = ap suc (sums_length bs ls n (omega arith) (omega arith))

-- ---- stores

-- no file is both of them
abbrev IsOneOf : Bool → Bool → Type 0
IsOneOf true true = ⊥
IsOneOf true false = Unit {0}
IsOneOf false b = Unit {0}

stored_sums : (a b : Bool) (e bs ls : List ℕ) (i v : ℕ) → IsOneOf a b → e ≡ sums bs ls
    → pick (a || b) (set e i (get_or (pick a (set bs i v) bs) i 0 + get_or (pick b (set ls i v) ls) i 0)) e
    ≡ sums (pick a (set bs i v) bs) (pick b (set ls i v) ls)
stored_sums true true e bs ls i v o h = absurd o
stored_sums true false e bs ls i v o h = rw h (base_in_sums bs ls i v)
stored_sums false true e bs ls i v o h = rw h (length_in_sums bs ls i v)
stored_sums false false e bs ls i v o h = h

-- which of the two a file is
which : (f : File) → IsOneOf (same_file f Base) (same_file f Length)
which R = tt
which TR = tt
which THR = tt
which J = tt
which K = tt
which Base = tt
which Length = tt
which Flags = tt
which Memory = tt
which Dab = tt

pub true_put : (m : Machine) (p : Place) (v : ℕ) → EndsTrue m.state → EndsTrue (put m p v).state
unfolding get
true_put m p v h =
    rw (end_put m p v, view_put m p v Base, view_put m p v Length)
    (stored_sums (same_file p.file Base) (same_file p.file Length) m.state.end (view m Base) (view m Length)
    p.index v (which p.file) h)

pub true_puts : (ws : List Write) (m : Machine) → EndsTrue m.state → EndsTrue (puts ws m).state
unfolding puts
true_puts [] m h = h
true_puts (w ∷ ws) m h = true_puts ws (put m w.to w.value) (true_put m w.to w.value h)

-- ---- put right

pub right_true : (m : Machine) → EndsTrue (put_right m).state
unfolding put_right
right_true m = refl

pub right_view : (m : Machine) (f : File) → view (put_right m) f ≡ view m f
unfolding put_right
right_view m f = view_make (view m) (sums (view m Base) (view m Length)) f

pub right_memory : (m : Machine) → (put_right m).memory ≡ m.memory
unfolding put_right
right_memory m = refl

-- true ends are left as they are
pub right_kept : (m : Machine) → EndsTrue m.state → put_right m ≡ m
unfolding put_right
right_kept m h = by_files _ _ (λ f. view_make (view m) (sums (view m Base) (view m Length)) f) (sym h)

-- machines that differ in their ends alone are put right alike
pub right_alike : (m n : Machine) → ((f : File) → view m f ≡ view n f) → put_right m ≡ put_right n
unfolding put_right
right_alike m n h = by_files _ _ (λ f. view_make (view m) (sums (view m Base) (view m Length)) f ∙ h f
    ∙ sym (view_make (view n) (sums (view n Base) (view n Length)) f)) (rw (h Base, h Length))

-- Slots on different units of a line never store a THR twice: they meet as if every THR pair were loaded.
use mathlib.Core.Path.{◌≡◌, refl, sym, ap, ◌∙◌}
use mathlib.Core.List.{List, [], ◌∷◌, ◌++◌, append_assoc, append-nil}
use mathlib.Core.Bool.{Bool, true, false, or-false, true≢false, false≢true}
use Prim.Native.Nat.{ℕ, ◌+◌, ◌*◌, ◌≤◌, ◌<◌}
use native.Mathlib.Omega.{arith}
use lib.Dec.{ltb, eqb}
use borrow.Author.Tests.{eq-eqb, eqb-true}
use Rattle.bits.specs.Pick.{pick}
use Rattle.bits.specs.Ops.{is_store, keeps_index, despread_words, old_words}
use Rattle.slots.specs.Lists.{some, All}
use Rattle.slots.specs.Places.{R, TR, THR, J, K, Base, Length, Dab, Place, file_number, meet, in_r, in_tr, in_thr, ialu_file, in_ialu, in_dab, in_buffers, access_file, in_file}
use Rattle.slots.specs.Stores.{stored, loads_pair, pair_loaded}
use Rattle.slots.specs.Families.{on_despread}
use Rattle.slots.specs.declared.slot.Slot.{Slot}
use Rattle.slots.specs.declared.slot.Slot.TheVariants.{Alu, Shifter, Trellis, Tmax, Despread, Transfer}
use Rattle.slots.specs.declared.slot.Slot.TheVariants.{Arith, Buffer, Access, DabLoad}
use Rattle.slots.proofs.Valid.{Valid, ThrPair}
use Rattle.sets.specs.PlaceSets.{Fits, set_of}
use Rattle.sets.proofs.PlaceSets.{meets_comm, meet_is}
use Rattle.sets.proofs.StoredSets.{stored_fits}
use Rattle.sets.proofs.PlaceLists.{meet_left, meet_right, meet_none, files_apart, Clear, places_apart}
use Rattle.line.specs.Rules.{unit_of}

-- ---- the THR that a DESPREAD shifts, where its line does not load it

abbrev shifted : Bool → Slot → List Place
shifted l x = on_despread [] (λ b op t f p o. in_thr b p (pick l 0 2)) x

-- a slot is a DESPREAD, or stores the same beside any load
by_shift : (P : Slot → Type 0)
    → ((x : Slot) → ((l : Bool) → stored l x ≡ stored true x) → ((l : Bool) → shifted l x ≡ []) → P x)
    → ((b op t f p o : ℕ) → P (Despread b op t f p o)) → (x : Slot) → P x
unfolding stored
by_shift P same shift (Alu b op t f s) = same (Alu b op t f s) (λ l. refl) (λ l. refl)
by_shift P same shift (Shifter b op t f s) = same (Shifter b op t f s) (λ l. refl) (λ l. refl)
by_shift P same shift (Trellis b op t f s q) = same (Trellis b op t f s q) (λ l. refl) (λ l. refl)
by_shift P same shift (Tmax b op t f s) = same (Tmax b op t f s) (λ l. refl) (λ l. refl)
by_shift P same shift (Despread b op t f p o) = shift b op t f p o
by_shift P same shift (Transfer b op t f) = same (Transfer b op t f) (λ l. refl) (λ l. refl)
by_shift P same shift (Arith ialu op t f s i) = same (Arith ialu op t f s i) (λ l. refl) (λ l. refl)
by_shift P same shift (Buffer ialu op t f) = same (Buffer ialu op t f) (λ l. refl) (λ l. refl)
by_shift P same shift (Access ialu op w file n f s i) = same (Access ialu op w file n f s i) (λ l. refl) (λ l. refl)
by_shift P same shift (DabLoad ialu b t f i) = same (DabLoad ialu b t f i) (λ l. refl) (λ l. refl)

shift_beside : (l : Bool) (x : Slot) → stored l x ≡ stored true x ++ shifted l x
unfolding stored
shift_beside l =
    by_shift (λ x. stored l x ≡ stored true x ++ shifted l x)
    (λ x same none. rw (same l, none l) (sym (append-nil (stored true x))))
    (λ b op t f p o.
    rw (append-nil (in_r b o (old_words op)))
    (sym (append_assoc (in_tr b t (despread_words op)) (in_r b o (old_words op)) (in_thr b p (pick l 0 2)))))

-- ---- a slot that does not load a THR pair stores none of it

-- two THR pairs, where one is not the other
pairs_clear : (b t c r n m : ℕ) → b < 2 → c < 2 → ThrPair t → ThrPair r → n ≤ 2 → m ≤ 2 → (c ≡ b → r ≡ t → ⊥)
    → Clear (4 * b + t) n (4 * c + r) m
pairs_clear b t c r n m b2 c2 tp rp n2 m2 k _ _ g h = k (omega arith) (omega arith)

file_apart : (a b : Bool) → eqb (file_number (pick a R (pick b J K))) (file_number THR) ≡ false
file_apart true b = refl
file_apart false true = refl
file_apart false false = refl

module _ (c r n : ℕ) (c2 : c < 2) (rp : ThrPair r) (n2 : n ≤ 2) where
  abbrev Clears : Slot → Type 0
  Clears x = meet (stored true x) (in_thr c r n) ≡ false

  loads_other : (b op t f : ℕ) → Valid (Transfer b op t f) → loads_pair c r (Transfer b op t f) ≡ false
      → meet (in_thr b t (pick (eqb op 2) 2 0)) (in_thr c r n) ≡ false
  loads_other b op t f v e = go (eqb op 2) refl
    where
      go : (o : Bool) → o ≡ eqb op 2 → meet (in_thr b t (pick o 2 0)) (in_thr c r n) ≡ false
      go false h = refl
      go true h =
          places_apart THR THR (4 * b + t) 2 (4 * c + r) n
          (pairs_clear b t c r 2 n v.0 c2 (v.4 (eqb-true op 2 (sym h))).0 rp (omega arith) n2
          (λ p q. true≢false (sym (rw (← h, eq-eqb c b p, eq-eqb r t q)) ∙ e)))

  no_pair : (x : Slot) → Valid x → loads_pair c r x ≡ false → Clears x
  unfolding stored
  no_pair (Alu b op t f s) v e = files_apart R THR (32 * b + t) 1 (4 * c + r) n refl
  no_pair (Shifter b op t f s) v e = files_apart R THR (32 * b + t) (pick (eqb op 7) 0 1) (4 * c + r) n refl
  no_pair (Trellis b op t f s q) v e = files_apart TR THR (32 * b + t) 2 (4 * c + r) n refl
  no_pair (Tmax b op t f s) v e = files_apart R THR (32 * b + t) 1 (4 * c + r) n refl
  no_pair (Despread b op t f p o) v e =
      meet_left (in_tr b t (despread_words op)) (in_r b o (old_words op) ++ []) (in_thr c r n)
      ∙ rw (
        meet_left (in_r b o (old_words op)) [] (in_thr c r n),
        files_apart TR THR (32 * b + t) (despread_words op) (4 * c + r) n refl,
        files_apart R THR (32 * b + o) (old_words op) (4 * c + r) n refl,
      )
  no_pair (Transfer b op t f) v e =
      meet_left (in_tr b t (pick (eqb op 1) 1 0)) (in_r b t (pick (eqb op 3) 1 0) ++ in_thr b t (pick (eqb op 2) 2 0))
      (in_thr c r n)
      ∙ rw (
        meet_left (in_r b t (pick (eqb op 3) 1 0)) (in_thr b t (pick (eqb op 2) 2 0)) (in_thr c r n),
        files_apart TR THR (32 * b + t) (pick (eqb op 1) 1 0) (4 * c + r) n refl,
        files_apart R THR (32 * b + t) (pick (eqb op 3) 1 0) (4 * c + r) n refl,
        loads_other b op t f v e,
      )
  no_pair (Arith ialu op t f s i) v e =
      files_apart (ialu_file ialu) THR t (pick (eqb t 31) 0 1) (4 * c + r) n (file_apart false (eqb ialu 0))
  no_pair (Buffer ialu op t f) v e = go (eqb op 15)
    where
      go : (b : Bool) → meet (in_buffers (pick b Base Length) ialu t) (in_thr c r n) ≡ false
      go true = files_apart Base THR (4 * ialu + t) 1 (4 * c + r) n refl
      go false = files_apart Length THR (4 * ialu + t) 1 (4 * c + r) n refl
  no_pair (Access ialu op w file m f s i) v e =
      meet_left (in_file file m (pick (is_store op) 0 w)) (pick (keeps_index op) [] (in_ialu ialu f)) (in_thr c r n)
      ∙ rw (
        files_apart (access_file file) THR (pick (ltb file 2) (32 * file) 0 + m) (pick (is_store op) 0 w) (4 * c + r) n
            (file_apart (ltb file 2) (eqb file 2)),
        index (keeps_index op),
      )
    where
      index : (b : Bool) → meet (pick b [] (in_ialu ialu f)) (in_thr c r n) ≡ false
      index true = refl
      index false = files_apart (ialu_file ialu) THR f (pick (eqb f 31) 0 1) (4 * c + r) n (file_apart false (eqb ialu 0))
  no_pair (DabLoad ialu b t f i) v e =
      meet_left (in_r b t 4) (in_dab b ++ in_ialu ialu f) (in_thr c r n)
      ∙ rw (
        meet_left (in_dab b) (in_ialu ialu f) (in_thr c r n),
        files_apart R THR (32 * b + t) 4 (4 * c + r) n refl,
        files_apart Dab THR (4 * b) 4 (4 * c + r) n refl,
        files_apart (ialu_file ialu) THR f (pick (eqb f 31) 0 1) (4 * c + r) n (file_apart false (eqb ialu 0)),
      )

-- ---- two slots of a line

at_most_2 : (l : Bool) → pick l 0 2 ≤ 2
at_most_2 true = omega arith
at_most_2 false = omega arith

-- two DESPREADs on different units
shifts_apart : (l m : Bool) (x y : Slot) → Valid x → Valid y → (unit_of x ≡ unit_of y → ⊥)
    → meet (shifted l x) (shifted m y) ≡ false
shifts_apart l m =
    by_shift (λ x. (y : Slot) → Valid x → Valid y → (unit_of x ≡ unit_of y → ⊥) → meet (shifted l x) (shifted m y) ≡ false)
    (λ x same none y vx vy d. rw (none l))
    (λ b op t f p o.
    by_shift
    (λ y. Valid (Despread b op t f p o) → Valid y → (5 + b ≡ unit_of y → ⊥)
    → meet (in_thr b p (pick l 0 2)) (shifted m y) ≡ false)
    (λ y same none vx vy d. rw (none m) (meet_none (in_thr b p (pick l 0 2))))
    (λ c op2 u g r a vx vy d.
    places_apart THR THR (4 * b + p) (pick l 0 2) (4 * c + r) (pick m 0 2)
    (pairs_clear b p c r (pick l 0 2) (pick m 0 2) vx.0 vy.0 vx.4 vy.4 (at_most_2 l) (at_most_2 m)
    (λ e _. d (ap (λ (k : ℕ). 5 + k) (sym e))))))

meet_comm : (xs ys : List Place) → All Fits xs → All Fits ys → meet xs ys ≡ meet ys xs
meet_comm xs ys h k = meet_is xs ys h k ∙ meets_comm (set_of xs) (set_of ys) ∙ sym (meet_is ys xs k h)

all_right : (xs ys : List Place) → All Fits (xs ++ ys) → All Fits ys
all_right [] ys h = h
all_right (x ∷ xs) ys h = all_right xs ys h.1

shifted_fits : (l : Bool) (x : Slot) → Valid x → All Fits (shifted l x)
shifted_fits l x v = all_right (stored true x) (shifted l x) (rw (shift_beside l x) at (stored_fits l x v))

-- ---- two slots of a line, each of which stores its shift only where the other does not load its pair

-- whether a slot loads the THR pair that another shifts
abbrev pub loads_for : Slot → Slot → Bool
loads_for x y = on_despread false (λ b op t f p o. loads_pair b p x) y

-- only a DESPREAD shifts a pair
pub shifts_pair : {C : Type 0} (x y : Slot) → loads_for x y ≡ true
    → ((b op t f p o : ℕ) → y ≡ Despread b op t f p o → loads_pair b p x ≡ true → C) → C
shifts_pair x (Alu b op t f s) e k = absurd (false≢true e)
shifts_pair x (Shifter b op t f s) e k = absurd (false≢true e)
shifts_pair x (Trellis b op t f s q) e k = absurd (false≢true e)
shifts_pair x (Tmax b op t f s) e k = absurd (false≢true e)
shifts_pair x (Despread b op t f p o) e k = k b op t f p o refl e
shifts_pair x (Transfer b op t f) e k = absurd (false≢true e)
shifts_pair x (Arith ialu op t f s i) e k = absurd (false≢true e)
shifts_pair x (Buffer ialu op t f) e k = absurd (false≢true e)
shifts_pair x (Access ialu op w file n f s i) e k = absurd (false≢true e)
shifts_pair x (DabLoad ialu b t f i) e k = absurd (false≢true e)

-- a load of the pair that a DESPREAD shifts holds the shift back
shift_held : (l : Bool) (x y : Slot) → Valid x → Valid y → (loads_for x y ≡ true → l ≡ true)
    → meet (stored true x) (shifted l y) ≡ false
shift_held l x y vx vy held =
    by_shift (λ y. Valid y → (loads_for x y ≡ true → l ≡ true) → meet (stored true x) (shifted l y) ≡ false)
    (λ y same none vy h. rw (none l) (meet_none (stored true x)))
    (λ c op t f r o vy h. go c r vy.0 vy.4 l h)
    y vy held
  where
    no_load : (b : Bool) → (b ≡ true → false ≡ true) → b ≡ false
    no_load true h = sym (h refl)
    no_load false h = refl

    go : (c r : ℕ) → c < 2 → ThrPair r → (l : Bool) → (loads_pair c r x ≡ true → l ≡ true)
        → meet (stored true x) (in_thr c r (pick l 0 2)) ≡ false
    go c r c2 rp true h = meet_none (stored true x)
    go c r c2 rp false h = no_pair c r 2 c2 rp (omega arith) x vx (no_load (loads_pair c r x) h)

-- l and m: whether the pairs that they shift are loaded
pub pair_same : (l m : Bool) (x y : Slot) → Valid x → Valid y → (loads_for y x ≡ true → l ≡ true) → (loads_for x y ≡ true → m ≡ true)
    → (unit_of x ≡ unit_of y → ⊥) → meet (stored l x) (stored m y) ≡ meet (stored true x) (stored true y)
pair_same l m x y vx vy hx hy d =
    rw (shift_beside l x, shift_beside m y)
    (meet_left (stored true x) held_x (stored true y ++ held_y)
    ∙ rw (
      meet_right (stored true x) (stored true y) held_y,
      meet_right held_x (stored true y) held_y,
      shift_held m x y vx vy hy,
      meet_comm held_x (stored true y) (shifted_fits l x vx) (stored_fits true y vy),
      shift_held l y x vy vx hx,
      shifts_apart l m x y vx vy d,
    )
    (simp or-false))
  where
    held_x : List Place
    held_x = shifted l x

    held_y : List Place
    held_y = shifted m y

-- ---- by the slots of a line, without their conditions

-- a line loads what its slots load
abbrev pub Sees : List Slot → Slot → Type 0
Sees line x = (b p : ℕ) → loads_pair b p x ≡ true → some (loads_pair b p) line ≡ true

pub sees_load : (line : List Slot) (x y : Slot) → Sees line x → loads_for x y ≡ true → pair_loaded line y ≡ true
sees_load line x y see e = shifts_pair x y e (λ b op t f p o q h. rw q (see b p h))

-- what a slot stores in its line
abbrev pub stored_in : List Slot → Slot → List Place
stored_in line x = stored (pair_loaded line x) x

-- Document 02, Note 6: rule 7, and which fetch a store waits for in an order, are the same with a block's data alignment buffer as one
-- place as with its four words as a place each, since no slot reads or stores a part of a buffer.
use mathlib.Core.Path.{◌≡◌, refl, sym, ap, ap₂, ◌∙◌}
use mathlib.Core.Bool.{Bool, true, false, not, ◌&&◌, ◌||◌, or-false}
use mathlib.Core.List.{List, [], ◌∷◌, ◌++◌, append-nil, append_assoc}
use mathlib.Core.Option.{none, some as the}
use Prim.Native.Nat.{ℕ, zero, suc, ◌+◌, ◌*◌, ◌/◌, ◌%◌}
use native.Mathlib.Omega.{arith}
use lib.Dec.{eqb, leb, ltb}
use borrow.Author.Tests.{eqb-true, eqb-false, eq-eqb, ne_eqb}
use Rattle.bits.specs.Pick.{pick}
use Rattle.bits.specs.Ops.{is_store, is_circular, keeps_index, despread_words, old_words}
use Rattle.slots.specs.Lists.{some, twice, All, nth_of}
use Rattle.slots.specs.Places.{File, R, TR, THR, J, K, Base, Length, Flags, Memory, Dab, Place, place, file_number, same_place, meet, places, ialu_file, access_file, in_ialu, in_buffers, in_file, in_dab}
use Rattle.slots.specs.Slots.{between}
use Rattle.slots.specs.Stores.{stored, pair_loaded, stored_by, slot_in}
use Rattle.slots.specs.Conditionals.{condition_fits, unconditional}
use Rattle.slots.specs.declared.conditional_slot.LineSlot.{LineSlot}
use Rattle.slots.specs.declared.slot.Slot.{Slot}
use Rattle.slots.specs.declared.slot.Slot.TheVariants.{Alu, Shifter, Trellis, Tmax, Despread, Transfer}
use Rattle.slots.specs.declared.slot.Slot.TheVariants.{Arith, Buffer, Access, DabLoad}
use Rattle.slots.specs.declared.conditional_slot.Conditional.{Conditional}
use Rattle.slots.proofs.Valid.{Valid}
use Rattle.machine.specs.Machine.{Machine, same_file}
use Rattle.machine.specs.Fetches.{Ask, done, values, asked, asks, targets, when}
use Rattle.machine.specs.SlotConditions.{condition_ialu, condition_places}
use Rattle.machine.proofs.Fetches.{gets, asked_asks}
use Rattle.machine.proofs.Places.{same_refl}
use Rattle.sets.proofs.PlaceLists.{meet_left, meet_right, twice_append, twice_places, places_apart, files_apart}
use Rattle.line.specs.Rules.{rule7}
use Rattle.instructions.specs.Held.{word}
use Rattle.instructions.specs.Fetching.{in_second, fetch_alu, fetch_shifter, fetch_trellis, fetch_tmax, fetch_despread, fetch_transfer, fetch_arith, fetch_buffer, fetch_access, fetch_dab_load, fetch_of}
use Rattle.instructions.specs.Storing.{store_of, words_stored}
use Rattle.instructions.proofs.StoredPlaces.{flag_group, stored_places}
use Rattle.conditional.specs.LineSlots.{live, loaded, fetch_in, store_in}
use Rattle.conditional.proofs.LineSlots.{is_live, is_loaded, family_asks, asked_in}
use Rattle.steps.specs.Steps.{act_of, acts_of}
use Rattle.orders.specs.Orders.{reads_by, stores_by, waits}
use Rattle.theorems.specs.OnePlace.{gathered}

-- ---- a list of places, with the words of each buffer in its place

abbrev spread_one : Place → List Place
spread_one p = pick (same_file p.file Dab) (in_dab p.index) (p ∷ [])

abbrev spread : List Place → List Place
spread [] = []
spread (p ∷ ps) = spread_one p ++ spread ps

-- two buffers have a word in common where they are the same
buffers_meet : (i j : ℕ) → meet (in_dab i) (in_dab j) ≡ eqb i j
buffers_meet i j = go (eqb i j) refl
  where
    go : (b : Bool) → eqb i j ≡ b → meet (in_dab i) (in_dab j) ≡ b
    go true e = rw (← eqb-true i j e, same_refl (place Dab (4 * i)))
    go false e =
        places_apart Dab Dab (4 * i) 4 (4 * j) 4 (λ a b c d. eqb-false i j e (omega arith))

one_meet : (p q : Place) → meet (spread_one p) (spread_one q) ≡ same_place p q
one_meet p q = go (same_file p.file Dab) (same_file q.file Dab) refl refl
  where
    both : (a b : ℕ) → a ≡ 9 → b ≡ 9 → eqb a b ≡ true
    both a b e f = eq-eqb a b (e ∙ sym f)

    apart : (a b : ℕ) → eqb a 9 ≡ true → eqb b 9 ≡ false → (eqb a b ≡ false) × (eqb b a ≡ false)
    apart a b e f = (
      ne_eqb a b (λ q. eqb-false b 9 f (sym q ∙ eqb-true a 9 e)),
      ne_eqb b a (λ q. eqb-false b 9 f (q ∙ eqb-true a 9 e)),
    )

    go : (a b : Bool) → same_file p.file Dab ≡ a → same_file q.file Dab ≡ b
        → meet (pick a (in_dab p.index) (p ∷ [])) (pick b (in_dab q.index) (q ∷ [])) ≡ same_place p q
    go false false e f = or-false (same_place p q || false) ∙ or-false (same_place p q)
    go true true e f =
        buffers_meet p.index q.index
        ∙ sym (rw (both (file_number p.file) (file_number q.file) (eqb-true (file_number p.file) 9 e) (eqb-true (file_number q.file) 9 f)))
    go true false e f =
        files_apart Dab q.file (4 * p.index) 4 q.index 1 (ne_eqb 9 (file_number q.file) (λ z. eqb-false (file_number q.file) 9 f (sym z)))
        ∙ sym (rw (apart (file_number p.file) (file_number q.file) e f).0)
    go false true e f =
        files_apart p.file Dab p.index 1 (4 * q.index) 4 (ne_eqb (file_number p.file) 9 (eqb-false (file_number p.file) 9 e))
        ∙ sym (rw (apart (file_number q.file) (file_number p.file) f e).1)

some_spread : (p : Place) (qs : List Place) → meet (spread_one p) (spread qs) ≡ some (same_place p) qs
some_spread p [] = none (same_file p.file Dab)
  where
    none : (b : Bool) → meet (pick b (in_dab p.index) (p ∷ [])) [] ≡ false
    none true = refl
    none false = refl
some_spread p (q ∷ qs) = meet_right (spread_one p) (spread_one q) (spread qs) ∙ ap₂ ◌||◌ (one_meet p q) (some_spread p qs)

spread_meet : (ps qs : List Place) → meet (spread ps) (spread qs) ≡ meet ps qs
spread_meet [] qs = refl
spread_meet (p ∷ ps) qs =
    meet_left (spread_one p) (spread ps) (spread qs) ∙ ap₂ ◌||◌ (some_spread p qs) (spread_meet ps qs)

spread_twice : (ps : List Place) → twice same_place (spread ps) ≡ twice same_place ps
spread_twice [] = refl
spread_twice (p ∷ ps) =
    twice_append (spread_one p) (spread ps)
    ∙ rw (one (same_file p.file Dab), some_spread p ps, spread_twice ps)
  where
    one : (b : Bool) → twice same_place (pick b (in_dab p.index) (p ∷ [])) ≡ false
    one true = twice_places Dab (4 * p.index) 4
    one false = refl

-- ---- lists in which every buffer stands whole

abbrev Whole : List Place → Type 0
Whole ps = spread (gathered ps) ≡ ps

gathered_append : (ps qs : List Place) → gathered (ps ++ qs) ≡ gathered ps ++ gathered qs
gathered_append [] qs = refl
gathered_append (p ∷ ps) qs = rw (gathered_append ps qs) (go (same_file p.file Dab) (eqb (p.index % 4) 0))
  where
    go : (a b : Bool)
        → pick a (pick b (place Dab (p.index / 4) ∷ (gathered ps ++ gathered qs)) (gathered ps ++ gathered qs)) (p ∷ (gathered ps ++ gathered qs))
        ≡ pick a (pick b (place Dab (p.index / 4) ∷ gathered ps) (gathered ps)) (p ∷ gathered ps) ++ gathered qs
    go true true = refl
    go true false = refl
    go false b = refl

spread_append : (ps qs : List Place) → spread (ps ++ qs) ≡ spread ps ++ spread qs
spread_append [] qs = refl
spread_append (p ∷ ps) qs =
    ap (λ (l : List Place). spread_one p ++ l) (spread_append ps qs) ∙ sym (append_assoc (spread_one p) (spread ps) (spread qs))

and : (ps qs : List Place) → Whole ps → Whole qs → Whole (ps ++ qs)
and ps qs h k =
    ap spread (gathered_append ps qs) ∙ spread_append (gathered ps) (gathered qs) ∙ ap₂ ◌++◌ h k

-- places of another file
others : (f : File) (i n : ℕ) → same_file f Dab ≡ false → Whole (places f i n)
others f i zero e = refl
others f i (suc n) e = rw (e, e) (ap (λ (l : List Place). place f i ∷ l) (others f (suc i) n e))

-- a buffer's four words
buffer : (b : ℕ) → Whole (in_dab b)
buffer b =
    rw (
      eq-eqb (4 * b % 4) 0 (omega arith),
      ne_eqb (suc (4 * b) % 4) 0 (λ e. omega arith),
      ne_eqb (suc (suc (4 * b)) % 4) 0 (λ e. omega arith),
      ne_eqb (suc (suc (suc (4 * b))) % 4) 0 (λ e. omega arith),
      quarter,
    )
    (append-nil (in_dab b))
  where
    quarter : 4 * b / 4 ≡ b
    quarter = omega arith

-- places that are there under a condition
either : (c : Bool) (ps qs : List Place) → Whole ps → Whole qs → Whole (pick c ps qs)
either true ps qs h k = h
either false ps qs h k = k

ialu_other : (ialu i n : ℕ) → Whole (places (ialu_file ialu) i n)
ialu_other ialu i n = others (ialu_file ialu) i n (go (eqb ialu 0))
  where
    go : (b : Bool) → same_file (pick b J K) Dab ≡ false
    go true = refl
    go false = refl

access_other : (file i n : ℕ) → Whole (places (access_file file) i n)
access_other file i n = others (access_file file) i n (go (ltb file 2) (eqb file 2))
  where
    go : (a b : Bool) → same_file (pick a R (pick b J K)) Dab ≡ false
    go true b = refl
    go false true = refl
    go false false = refl

-- ---- what a slot stores

stored_whole : (l : Bool) (x : Slot) → Whole (stored l x)
unfolding stored
stored_whole l (Alu b op t f s) = others R (32 * b + t) 1 refl
stored_whole l (Shifter b op t f s) = others R (32 * b + t) (pick (eqb op 7) 0 1) refl
stored_whole l (Trellis b op t f s q) = others TR (32 * b + t) 2 refl
stored_whole l (Tmax b op t f s) = others R (32 * b + t) 1 refl
stored_whole l (Despread b op t f p o) =
    and _ _ (others TR (32 * b + t) (despread_words op) refl)
    (and _ _ (others R (32 * b + o) (old_words op) refl) (others THR (4 * b + p) (pick l 0 2) refl))
stored_whole l (Transfer b op t f) =
    and _ _ (others TR (32 * b + t) (pick (eqb op 1) 1 0) refl)
    (and _ _ (others R (32 * b + t) (pick (eqb op 3) 1 0) refl) (others THR (4 * b + t) (pick (eqb op 2) 2 0) refl))
stored_whole l (Arith ialu op t f s i) = ialu_other ialu t (pick (eqb t 31) 0 1)
stored_whole l (Buffer ialu op t f) = go (eqb op 15)
  where
    go : (b : Bool) → Whole (in_buffers (pick b Base Length) ialu t)
    go true = others Base (4 * ialu + t) 1 refl
    go false = others Length (4 * ialu + t) 1 refl
stored_whole l (Access ialu op w file n f s i) =
    and _ _ (access_other file (pick (ltb file 2) (32 * file) 0 + n) (pick (is_store op) 0 w))
    (either (keeps_index op) [] (in_ialu ialu f) refl (ialu_other ialu f (pick (eqb f 31) 0 1)))
stored_whole l (DabLoad ialu b t f i) =
    and _ _ (others R (32 * b + t) 4 refl) (and _ _ (buffer b) (ialu_other ialu f (pick (eqb f 31) 0 1)))

line_whole : (line xs : List Slot) → Whole (stored_by line xs)
line_whole line [] = refl
line_whole line (x ∷ xs) = and _ _ (stored_whole (pair_loaded line x) x) (line_whole line xs)

flags_whole : (x : Slot) → Whole (flag_group x)
flags_whole (Alu b op t f s) = others Flags (0 + b) 1 refl
flags_whole (Shifter b op t f s) = others Flags (2 + b) 1 refl
flags_whole (Trellis b op t f s q) = others Flags (4 + b) 1 refl
flags_whole (Tmax b op t f s) = others Flags (4 + b) 1 refl
flags_whole (Despread b op t f p o) = others Flags (4 + b) 1 refl
flags_whole (Transfer b op t f) = refl
flags_whole (Arith ialu op t f s i) = others Flags (6 + ialu) 1 refl
flags_whole (Buffer ialu op t f) = refl
flags_whole (Access ialu op w file n f s i) = refl
flags_whole (DabLoad ialu b t f i) = refl

words_whole : (x : Slot) (v : List ℕ) → Whole (words_stored x v)
words_whole (Alu b op t f s) v = refl
words_whole (Shifter b op t f s) v = refl
words_whole (Trellis b op t f s q) v = refl
words_whole (Tmax b op t f s) v = refl
words_whole (Despread b op t f p o) v = refl
words_whole (Transfer b op t f) v = refl
words_whole (Arith ialu op t f s i) v = refl
words_whole (Buffer ialu op t f) v = refl
words_whole (Access ialu op w file n f s i) v = others Memory _ (pick (is_store op) w 0) refl
words_whole (DabLoad ialu b t f i) v = refl

targets_whole : (x : Slot) (v : List ℕ) → Valid x → Whole (targets (store_in x v))
unfolding store_in targets
targets_whole x v h = go (live v)
  where
    go : (b : Bool) → Whole (targets (pick b (store_of (loaded v) x v) []))
    go true =
        rw (stored_places (loaded v) x v h)
        (and _ _ (stored_whole (loaded v) x) (and _ _ (flags_whole x) (words_whole x v)))
    go false = refl

-- ---- what it reads

module _ (m : Machine) where
  -- questions one after another
  asks_whole : (ps : List Place) (k : List ℕ → Ask) → Whole ps → ((vs : List ℕ) → Whole (asked (k vs) m)) → Whole (asked (asks ps k) m)
  asks_whole ps k h g = rw (asked_asks ps k m) (and ps (asked (k (gets m ps)) m) h (g (gets m ps)))

  if_asked : (c : Bool) (f : File) (i n : ℕ) → same_file f Dab ≡ false → Whole (when c (places f i n))
  if_asked c f i n e = either c (places f i n) [] (others f i n e) refl

  index_whole : (ialu i : ℕ) → Whole (in_ialu ialu i)
  index_whole ialu i = ialu_other ialu i (pick (eqb i 31) 0 1)

  second_whole : (ialu s : ℕ) → Whole (in_second ialu s)
  second_whole ialu s = either (not (eqb s 32)) (in_ialu ialu s) [] (index_whole ialu s) refl

  nothing_more : (vs : List ℕ) → Whole (asked (done vs) m)
  unfolding asked
  nothing_more vs = refl

  family_whole : (l : Bool) (x : Slot) → Whole (asked (fetch_of l x) m)
  unfolding fetch_alu fetch_shifter fetch_trellis fetch_tmax fetch_despread fetch_transfer fetch_arith fetch_buffer fetch_access fetch_dab_load
  family_whole l (Alu b op t f s) =
      asks_whole _ _ (others R _ 1 refl) λ x. asks_whole _ _ (if_asked (not (between 8 10 op)) R _ 1 refl) λ y. nothing_more _
  family_whole l (Shifter b op t f s) =
      asks_whole _ _ (others R _ 1 refl) λ x. asks_whole _ _ (if_asked (not (leb 8 op)) R _ 1 refl) λ y. nothing_more _
  family_whole l (Trellis b op t f s q) =
      asks_whole _ _ (others TR _ 2 refl) λ x. asks_whole _ _ (others TR _ 2 refl) λ y. asks_whole _ _ (others R _ 4 refl) λ r.
      asks_whole _ _ (others Flags _ 1 refl) λ old. nothing_more _
  family_whole l (Tmax b op t f s) =
      asks_whole _ _ (others TR _ 1 refl) λ x. asks_whole _ _ (others TR _ 1 refl) λ y.
      asks_whole _ _ (others Flags _ 1 refl) λ old. nothing_more _
  family_whole l (Despread b op t f p o) =
      asks_whole _ _ (others TR _ 1 refl) λ x. asks_whole _ _ (if_asked (eqb op 13) TR _ 1 refl) λ x2.
      asks_whole _ _ (others THR _ 1 refl) λ y. asks_whole _ _ (if_asked (not l) THR _ 1 refl) λ y2.
      asks_whole _ _ (others R _ 4 refl) λ r. asks_whole _ _ (others Flags _ 1 refl) λ old. nothing_more _
  family_whole l (Transfer b op t f) =
      asks_whole _ _ (if_asked (not (eqb op 3)) R _ 1 refl) λ x. asks_whole _ _ (if_asked (eqb op 2) R _ 1 refl) λ x2.
      asks_whole _ _ (if_asked (eqb op 3) TR _ 1 refl) λ y. nothing_more _
  family_whole l (Arith ialu op t f s i) =
      asks_whole _ _ (index_whole ialu f) λ x.
      asks_whole _ _ (either (not (between 8 12 op)) (in_second ialu s) [] (second_whole ialu s) refl) λ y.
      asks_whole _ _ (if_asked (is_circular op) Length _ 1 refl) λ n. asks_whole _ _ (if_asked (not (eqb (word 0 n) 0)) Base _ 1 refl) λ b. nothing_more _
  family_whole l (Buffer ialu op t f) = asks_whole _ _ (index_whole ialu f) λ x. nothing_more _
  family_whole l (Access ialu op w file n f s i) =
      asks_whole _ _ (index_whole ialu f) λ x. asks_whole _ _ (second_whole ialu s) λ y.
      asks_whole _ _ (if_asked (is_circular op) Length _ 1 refl) λ k. asks_whole _ _ (if_asked (not (eqb (word 0 k) 0)) Base _ 1 refl) λ b.
      asks_whole _ _ (either (is_store op) (in_file file n w) _ (access_other file _ w) (others Memory _ w refl)) λ c. nothing_more _
  family_whole l (DabLoad ialu b t f i) =
      asks_whole _ _ (index_whole ialu f) λ x. asks_whole _ _ (others Length _ 1 refl) λ k.
      asks_whole _ _ (if_asked (not (eqb (word 0 k) 0)) Base _ 1 refl) λ base. asks_whole _ _ (buffer b) λ old.
      asks_whole _ _ (others Memory _ 4 refl) λ new. nothing_more _

  condition_whole : (c : ℕ) → Whole (condition_places c)
  condition_whole c = if_asked (not (eqb c 0) && condition_fits c) Flags (6 + condition_ialu c) 1 refl

  reads_whole : (x : LineSlot) → Whole (asked (fetch_in x) m)
  reads_whole x =
      rw (asked_in m x)
      (and _ _ (condition_whole x.condition)
      (either (is_live m x) (condition_places x.load ++ family_asks m x) []
      (and _ _ (condition_whole x.load) (family_whole (is_loaded m x) x.slot)) refl))

-- ---- rule 7, and orders

pub rule7_one_place : (xs : List Slot) → twice same_place (gathered (stored_by xs xs)) ≡ rule7 xs
rule7_one_place xs =
    sym (spread_twice (gathered (stored_by xs xs))) ∙ ap (twice same_place) (line_whole xs xs)

whole_meet : (ps qs : List Place) → Whole ps → Whole qs → meet (gathered ps) (gathered qs) ≡ meet ps qs
whole_meet ps qs h k = sym (spread_meet (gathered ps) (gathered qs)) ∙ ap₂ meet h k

-- slot s of a line
module _ (line : List Conditional) (m : Machine) where
  reads_of : (xs : List Conditional) (s : ℕ) → Whole (reads_by (nth_of (λ x. the (act_of line x)) none s xs) m)
  reads_of [] s = refl
  reads_of (x ∷ xs) zero = reads_whole m (slot_in line x)
  reads_of (x ∷ xs) (suc s) = reads_of xs s

  stores_of : (xs : List Conditional) (s : ℕ) → All Valid (unconditional xs)
      → Whole (stores_by (nth_of (λ x. the (act_of line x)) none s xs) m)
  stores_of [] s v = refl
  stores_of (x ∷ xs) zero v = targets_whole x.slot (values (fetch_in (slot_in line x)) m) v.0
  stores_of (x ∷ xs) (suc s) v = stores_of xs s v.1

  pub waits_one_place : All Valid (unconditional line) → (s t : ℕ)
      → (eqb s t || meet (gathered (reads_by (acts_of line s) m)) (gathered (stores_by (acts_of line t) m))) ≡ waits (acts_of line) m s t
  unfolding waits
  waits_one_place v s t = ap (◌||◌ (eqb s t)) (whole_meet _ _ (reads_of line s) (stores_of line t v))

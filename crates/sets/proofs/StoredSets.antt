-- The set of registers that a slot stores is the set of what `stored` lists, for a slot that was read.
use mathlib.Core.Path.{◌≡◌, refl, sym, ap, ◌∙◌}
use mathlib.Core.List.{List, [], ◌++◌}
use mathlib.Core.Bool.{Bool, true, false, ◌||◌, or-false}
use Prim.Native.Nat.{ℕ, zero, suc, ◌+◌, ◌*◌, ◌%◌, ◌^◌, ◌≤◌, ◌<◌}
use native.Mathlib.Nat.{zero-mul}
use native.Mathlib.Omega.{arith}
use lib.Bits.{bit_and, bit_or, or_zero_r, and_zero_r}
use lib.Dec.{ltb, eqb}
use lib.Pow.{pow_pos, shl_exact}
use borrow.Author.Tests.{eqb-true}
use Rattle.bits.specs.Pick.{pick}
use Rattle.bits.specs.Ops.{is_store, keeps_index, despread_words, old_words}
use Rattle.slots.specs.Lists.{twice, All}
use Rattle.slots.specs.Places.{File, R, TR, THR, J, K, Base, Length, Flags, Memory, Dab, Place, file_number, same_place, places, in_r, in_tr, in_thr, ialu_file, in_ialu, in_file, in_dab}
use Rattle.slots.specs.Stores.{stored}
use Rattle.slots.specs.declared.slot.Slot.{Slot}
use Rattle.slots.specs.declared.slot.Slot.TheVariants.{Alu, Shifter, Trellis, Tmax, Despread, Transfer}
use Rattle.slots.specs.declared.slot.Slot.TheVariants.{Arith, Buffer, Access, DabLoad}
use Rattle.slots.proofs.Valid.{Valid}
use Rattle.sets.specs.PlaceSets.{size, word_of, bit_from, Fits, words, in_word, joined, meets, set_of, bits_at, side_bits, four_bits}
use Rattle.sets.specs.StoredSets.{stored_despread, stored_transfer, index_bits, stored_buffer, load_bits, load_ialu, dab_bits, stored_dab_load, stored_set, stored_twice}
use Rattle.sets.specs.declared.place_set.PlaceSet.{PlaceSet}
use Rattle.sets.proofs.Words.{some_bit}
use Rattle.sets.proofs.PlaceLists.{meet_right, twice_append, all_append, files_apart, twice_places}
use Rattle.sets.proofs.PlaceSets.{meet_is, set_append, places_at}

-- ---- some registers of a file, four at most, or none

abbrev pub Inside : File → ℕ → ℕ → Type 0
Inside f i n = (n ≤ 4) × (0 < n → i + n ≤ size (file_number f))

pub inside : (f : File) (i n : ℕ) → n ≤ 4 → i + n ≤ size (file_number f) → Inside f i n
inside f i n h k = (h, λ _. k)

-- n or none, by a test
unless : (t : Bool) (f : File) (i n : ℕ) → n ≤ 4 → (t ≡ false → i + n ≤ size (file_number f)) → Inside f i (pick t 0 n)
unless true f i n h k = (omega arith, λ z. absurd (omega arith))
unless false f i n h k = (h, λ _. k refl)

where_so : (t : Bool) (f : File) (i n : ℕ) → n ≤ 4 → (t ≡ true → i + n ≤ size (file_number f)) → Inside f i (pick t n 0)
where_so true f i n h k = (h, λ _. k refl)
where_so false f i n h k = (omega arith, λ z. absurd (omega arith))

pub inside_fits : (f : File) (i n : ℕ) → Inside f i n → All Fits (places f i n)
inside_fits f i zero h = tt
inside_fits f i (suc n) h =
    let k = h.1 (omega arith) in (omega arith, inside_fits f (suc i) n (omega (arith, h.0), λ _. omega arith))

-- no file crosses a word
one_word : (f : File) → bit_from f + size (file_number f) ≤ 64
one_word R = omega arith
one_word TR = omega arith
one_word THR = omega arith
one_word J = omega arith
one_word K = omega arith
one_word Base = omega arith
one_word Length = omega arith
one_word Flags = omega arith
one_word Memory = omega arith
one_word Dab = omega arith

-- m: the first bit as the code has it
pub inside_set : (f : File) (i m n : ℕ) → bit_from f + i ≡ m % 64 → Inside f i n
    → set_of (places f i n) ≡ in_word (word_of f) (bits_at m n)
unfolding bits_at
inside_set f i m zero e h =
    places_at f i (m % 64) 0 e ∙ ap (in_word (word_of f)) (zero-mul (2 ^ (m % 64)) ∙ sym (rw (zero-mul (2 ^ (m % 64)))))
inside_set f i m (suc n) e h =
    let k = h.1 (omega arith) in
    let w = one_word f in
    let s : suc n % 64 ≡ suc n = omega (arith, h.0) in
    places_at f i (m % 64) (suc n) e
    ∙ ap (in_word (word_of f))
    (sym (rw s (shl_exact (suc n) (m % 64) 64 (omega (arith, pow_pos (suc n))) (omega arith))))

-- ---- what is told of a list of places: registers all, their set, and whether one is there twice

pub record Told (ps : List Place) (s : PlaceSet) (t : Bool) : Type 0 where
  pub fits : All Fits ps
  pub set_is : set_of ps ≡ s
  pub twice_is : twice same_place ps ≡ t

one : (f : File) (i m n : ℕ) → bit_from f + i ≡ m % 64 → Inside f i n
    → Told (places f i n) (in_word (word_of f) (bits_at m n)) false
one f i m n e h = record { fits = inside_fits f i n h; set_is = inside_set f i m n e h; twice_is = twice_places f i n }

-- a block's registers of TR, R and THR
module _ (b t n o m p k : ℕ) (b2 : b < 2) (t32 : t < 32) (o32 : o < 32) (p32 : p < 32) (trs : Inside TR (32 * b + t) n)
    (rs : Inside R (32 * b + o) m) (thrs : Inside THR (4 * b + p) k) where
  three_set : set_of (in_tr b t n ++ (in_r b o m ++ in_thr b p k))
      ≡ words (side_bits b o m) (side_bits b t n) 0 (four_bits (bit_from THR) b p k)
  unfolding joined
  three_set =
      set_append (in_tr b t n) (in_r b o m ++ in_thr b p k)
      ∙ rw (
        set_append (in_r b o m) (in_thr b p k),
        inside_set TR (32 * b + t) (32 * b + t) n (omega arith) trs,
        inside_set R (32 * b + o) (32 * b + o) m (omega arith) rs,
        inside_set THR (4 * b + p) (bit_from THR + (4 * b + p)) k (omega arith) thrs,
      )
      (rw (or_zero_r (side_bits b t n), or_zero_r (side_bits b o m)))

  three_twice : twice same_place (in_tr b t n ++ (in_r b o m ++ in_thr b p k)) ≡ false
  three_twice =
      twice_append (in_tr b t n) (in_r b o m ++ in_thr b p k)
      ∙ rw (
        meet_right (in_tr b t n) (in_r b o m) (in_thr b p k),
        twice_append (in_r b o m) (in_thr b p k),
        twice_places TR (32 * b + t) n,
        twice_places R (32 * b + o) m,
        twice_places THR (4 * b + p) k,
        files_apart TR R (32 * b + t) n (32 * b + o) m refl,
        files_apart TR THR (32 * b + t) n (4 * b + p) k refl,
        files_apart R THR (32 * b + o) m (4 * b + p) k refl,
      )

  three : Told (in_tr b t n ++ (in_r b o m ++ in_thr b p k))
      (words (side_bits b o m) (side_bits b t n) 0 (four_bits (bit_from THR) b p k)) false
  three =
      record {
        fits =
            all_append (in_tr b t n) (in_r b o m ++ in_thr b p k) (inside_fits TR (32 * b + t) n trs)
            (all_append (in_r b o m) (in_thr b p k) (inside_fits R (32 * b + o) m rs) (inside_fits THR (4 * b + p) k thrs));
        set_is = three_set;
        twice_is = three_twice;
      }

-- ---- the families

-- a DESPREAD's registers: two from an even number on, or one
despread_end : (op t : ℕ) → t < 32 → (op ≡ 13 → t % 2 ≡ 0) → (despread_words op ≤ 2) × (t + despread_words op ≤ 32)
despread_end op t h k = go (eqb op 13) refl
  where
    go : (b : Bool) → eqb op 13 ≡ b → (pick b 2 1 ≤ 2) × (t + pick b 2 1 ≤ 32)
    go true e = let q = k (eqb-true op 13 e) in (omega arith, omega arith)
    go false e = (omega arith, omega arith)

-- register i of an IALU, unless the test holds
ialu_told : (ialu i : ℕ) (t : Bool) → ialu < 2 → i < 32
    → Told (places (ialu_file ialu) i (pick (t || eqb i 31) 0 1)) (words 0 0 (index_bits ialu i t) 0) false
unfolding index_bits
ialu_told zero i t h g =
    one J i (32 * 0 + i) (pick (t || eqb i 31) 0 1) (omega arith)
    (unless (t || eqb i 31) J i 1 (omega arith) (λ _. omega arith))
ialu_told (suc zero) i t h g =
    one K i (32 * 1 + i) (pick (t || eqb i 31) 0 1) (omega arith)
    (unless (t || eqb i 31) K i 1 (omega arith) (λ _. omega arith))
ialu_told (suc (suc ialu)) i t h g = absurd (omega arith)

-- k registers of an access's file
pub file_told : (file n k : ℕ) → file < 4 → n < 32 → k ≤ 4 → n + k ≤ 32
    → Told (in_file file n k) (words (pick (ltb file 2) (side_bits file n k) 0) 0 (pick (ltb file 2) 0 (side_bits file n k)) 0)
    false
file_told zero n k hf hn hk he =
    one R (32 * 0 + n) (32 * 0 + n) k (omega arith) (inside R (32 * 0 + n) k hk (omega arith))
file_told (suc zero) n k hf hn hk he =
    one R (32 * 1 + n) (32 * 1 + n) k (omega arith) (inside R (32 * 1 + n) k hk (omega arith))
file_told (suc (suc zero)) n k hf hn hk he = one J (0 + n) (32 * 2 + n) k (omega arith) (inside J (0 + n) k hk (omega arith))
file_told (suc (suc (suc zero))) n k hf hn hk he =
    one K (0 + n) (32 * 3 + n) k (omega arith) (inside K (0 + n) k hk (omega arith))
file_told (suc (suc (suc (suc file)))) n k hf hn hk he = absurd (omega arith)

-- w of them or none
none_or_all : (t : Bool) (n w : ℕ) → w ≤ 4 → n + w ≤ 32 → (pick t 0 w ≤ 4) × (n + pick t 0 w ≤ 32)
none_or_all true n w h k = (omega arith, omega arith)
none_or_all false n w h k = (h, k)

-- the index that an access updates
pub index_told : (ialu i : ℕ) (t : Bool) → ialu < 2 → i < 32
    → Told (pick t [] (in_ialu ialu i)) (words 0 0 (index_bits ialu i t) 0) false
index_told ialu i true h g = ialu_told ialu i true h g
index_told ialu i false h g = ialu_told ialu i false h g

ialu_meets : (r x y : ℕ) → meets (words r 0 x 0) (words 0 0 y 0) ≡ some_bit (bit_and x y)
unfolding meets
ialu_meets r x y = rw (and_zero_r r, or_zero_r (bit_and x y))

module _ (r x y : ℕ) (ps qs : List Place) (p : Told ps (words r 0 x 0) false) (q : Told qs (words 0 0 y 0) false) where
  two_set : set_of (ps ++ qs) ≡ words r 0 (bit_or x y) 0
  unfolding joined
  two_set = set_append ps qs ∙ rw (p.set_is, q.set_is) (rw (or_zero_r r))

  -- loads of R or of an IALU, and an index
  two : Told (ps ++ qs) (words r 0 (bit_or x y) 0) (some_bit (bit_and x y))
  two =
      record {
        fits = all_append ps qs p.fits q.fits;
        set_is = two_set;
        twice_is =
            twice_append ps qs
            ∙ rw (p.twice_is, q.twice_is, meet_is ps qs p.fits q.fits, p.set_is, q.set_is, ialu_meets r x y)
            (or-false (some_bit (bit_and x y)));
      }

-- ---- a load through a data alignment buffer

told_set : {ps : List Place} {s t : PlaceSet} → Told ps s false → s ≡ t → Told ps t false
told_set o e = record { fits = o.fits; set_is = o.set_is ∙ e; twice_is = o.twice_is }

apart_told : (ps qs : List Place) {s t : PlaceSet} → Told ps s false → Told qs t false → meets s t ≡ false
    → Told (ps ++ qs) (joined s t) false
apart_told ps qs p q m =
    record {
      fits = all_append ps qs p.fits q.fits;
      set_is = set_append ps qs ∙ rw (p.set_is, q.set_is);
      twice_is =
          twice_append ps qs
          ∙ rw (p.twice_is, q.twice_is, meet_is ps qs p.fits q.fits, p.set_is, q.set_is, m);
    }

pub dab_told : (b : ℕ) → b < 2 → Told (in_dab b) (words 0 0 0 (dab_bits b)) false
dab_told b h = one Dab (4 * b) (bit_from Dab + (4 * b + 0)) 4 (omega arith) (inside Dab (4 * b) 4 (omega arith) (omega arith))

dab_load_told : (ialu b t f : ℕ) → ialu < 2 → b < 2 → t + 4 ≤ 32 → f < 32
    → Told (in_r b t 4 ++ (in_dab b ++ in_ialu ialu f)) (stored_dab_load ialu b t f) false
unfolding stored_dab_load joined meets
dab_load_told ialu b t f hi hb ht hf =
    told_set
    (apart_told (in_r b t 4) (in_dab b ++ in_ialu ialu f)
    (one R (32 * b + t) (32 * b + t) 4 (omega arith) (inside R (32 * b + t) 4 (omega arith) (omega arith)))
    (apart_told (in_dab b) (in_ialu ialu f) (dab_told b hb) (ialu_told ialu f false hi hf) (simp and_zero_r))
    (simp (and_zero_r, or_zero_r)))
    (simp or_zero_r)

told : (l : Bool) (x : Slot) → Valid x → Told (stored l x) (stored_set l x) (stored_twice x)
unfolding stored stored_set stored_despread stored_transfer stored_buffer
told l (Alu b op t f s) v =
    one R (32 * b + t) (32 * b + t) 1 (omega arith) (inside R (32 * b + t) 1 (omega arith) (omega arith))
told l (Shifter b op t f s) v =
    one R (32 * b + t) (32 * b + t) (pick (eqb op 7) 0 1) (omega arith)
    (unless (eqb op 7) R (32 * b + t) 1 (omega arith) (λ _. omega arith))
told l (Trellis b op t f s q) v =
    one TR (32 * b + t) (32 * b + t) 2 (omega arith) (inside TR (32 * b + t) 2 (omega arith) (omega arith))
told l (Tmax b op t f s) v =
    one R (32 * b + t) (32 * b + t) 1 (omega arith) (inside R (32 * b + t) 1 (omega arith) (omega arith))
told l (Despread b op t f p o) v =
    let trs = despread_end op t v.2 (λ q. (v.7 q).0) in
    let rs = despread_end op o v.5 (λ q. (v.7 q).1) in
    three b t (despread_words op) o (old_words op) p (pick l 0 2) v.0 v.2 v.5 (omega arith)
    (inside TR (32 * b + t) (despread_words op) (omega arith) (omega arith))
    (unless (eqb op 11) R (32 * b + o) (despread_words op) (omega arith) (λ _. omega arith))
    (unless l THR (4 * b + p) 2 (omega arith) (λ _. omega arith))
told l (Transfer b op t f) v =
    three b t (pick (eqb op 1) 1 0) t (pick (eqb op 3) 1 0) t (pick (eqb op 2) 2 0) v.0 v.2 v.2 v.2
    (where_so (eqb op 1) TR (32 * b + t) 1 (omega arith) (λ _. omega arith))
    (where_so (eqb op 3) R (32 * b + t) 1 (omega arith) (λ _. omega arith))
    (where_so (eqb op 2) THR (4 * b + t) 2 (omega arith) (λ e. let q = (v.4 (eqb-true op 2 e)).0 in omega arith))
told l (Arith ialu op t f s i) v = ialu_told ialu t false v.0 v.2
told l (Buffer ialu op t f) v = go (eqb op 15)
  where
    go : (b : Bool)
        → Told (places (pick b Base Length) (4 * ialu + t) 1)
        (words 0 0 0 (four_bits (pick b (bit_from Base) (bit_from Length)) ialu t 1)) false
    go true =
        one Base (4 * ialu + t) (bit_from Base + (4 * ialu + t)) 1 (omega arith)
        (inside Base (4 * ialu + t) 1 (omega arith) (omega arith))
    go false =
        one Length (4 * ialu + t) (bit_from Length + (4 * ialu + t)) 1 (omega arith)
        (inside Length (4 * ialu + t) 1 (omega arith) (omega arith))
told l (Access ialu op w file n f s i) v =
    let few = none_or_all (is_store op) n w (omega arith) (omega arith) in
    two (pick (ltb file 2) (load_bits op w file n) 0) (load_ialu op w file n) (index_bits ialu f (keeps_index op))
    (in_file file n (pick (is_store op) 0 w)) (pick (keeps_index op) [] (in_ialu ialu f))
    (file_told file n (pick (is_store op) 0 w) (omega arith) (omega arith) few.0 few.1)
    (index_told ialu f (keeps_index op) v.0 v.3)
told l (DabLoad ialu b t f i) v = dab_load_told ialu b t f v.0 v.1 (omega arith) (omega arith)

-- ---- what a slot that was read stores

module _ (l : Bool) (x : Slot) (v : Valid x) where
  pub stored_fits : All Fits (stored l x)
  stored_fits = (told l x v).fits

  pub stored_set_lem : set_of (stored l x) ≡ stored_set l x
  stored_set_lem = (told l x v).set_is

  pub stored_twice_lem : twice same_place (stored l x) ≡ stored_twice x
  stored_twice_lem = (told l x v).twice_is

-- The places that a slot's fetch asks are those of its footprint.
use mathlib.Core.Path.{◌≡◌, refl, sym, ◌∙◌}
use mathlib.Core.Logic.{◌⊎◌, inl, inr, ⊎_elim}
use mathlib.Core.Bool.{Bool, true, false, not, ◌&&◌, ◌||◌, true≢false}
use mathlib.Core.List.{List, ◌++◌, append_assoc, append-nil}
use Prim.Native.Nat.{ℕ, suc, ◌+◌, ◌*◌, ◌%◌, ◌≤◌, ◌<◌}
use native.Mathlib.Omega.{arith}
use lib.Bits.{or_zero_r}
use lib.Dec.{eqb, leb}
use borrow.Author.Tests.{eqb-true, eqb-false, ne_eqb}
use Rattle.std.proofs.lemmas.Bool.{or_cases, not-true}
use Rattle.bits.specs.Pick.{pick}
use Rattle.bits.specs.Ops.{is_store, is_circular, despread_words}
use Rattle.slots.specs.Places.{File, R, TR, THR, Base, Length, Memory, Place, places, in_r, in_tr, in_thr, in_ialu, in_buffers, in_file, in_flags, in_memory}
use Rattle.slots.specs.Slots.{between}
use Rattle.slots.specs.declared.slot.Slot.{Slot}
use Rattle.slots.specs.declared.slot.Slot.TheVariants.{Alu, Shifter, Trellis, Tmax, Despread, Transfer}
use Rattle.slots.specs.declared.slot.Slot.TheVariants.{Arith, Buffer, Access, DabLoad}
use Rattle.slots.proofs.Tests.{and_right}
use Rattle.slots.proofs.Valid.{Valid}
use Rattle.machine.specs.Machine.{Machine}
use Rattle.machine.specs.Fetches.{values, asked, when}
use Rattle.machine.proofs.Fetches.{gets, values_asks, asked_asks}
use Rattle.sets.specs.PlaceSets.{bit_from, words, joined, side_bits, four_bits}
use Rattle.sets.proofs.StoredSets.{inside, file_told, dab_told}
use Rattle.word.specs.Addresses.{quad_at}
use Rattle.instructions.specs.Held.{word, index, len}
use Rattle.instructions.specs.Fetching.{fetch_alu, fetch_shifter, fetch_trellis, fetch_tmax, fetch_despread, fetch_transfer, fetch_arith, fetch_buffer, fetch_access, fetch_dab_load, fetch_of}
use Rattle.instructions.proofs.AccessFetch.{address_of, access_held, access_asked}
use Rattle.footprints.specs.Footprints.{reads_pair, reads_trellis, reads_tmax, reads_despread, reads_transfer, operand_bits, buffer_bits, reads_arith, reads_access, reads_dab_load, slot_reads}
use Rattle.footprints.proofs.Parts.{Of, told_of, and_of, is_of, at, at_if, r_of, tr_of, r_if, tr_if, ialu_if, flags_of, Covers, registers_cover}

-- ---- the operands of the families that have a block

pair_of : (b f s : ℕ) (c : Bool) → b < 2 → f < 32 → s < 32 → Of (in_r b f 1 ++ when c (in_r b s 1)) (reads_pair b f s c)
unfolding reads_pair joined
pair_of b f s c hb hf hs = and_of (r_of b f hb hf 1 (omega arith) (omega arith)) (r_if b s hb hs c)

trellis_of : (b f s q : ℕ) → b < 2 → f + 2 ≤ 32 → s + 2 ≤ 32 → q + 4 ≤ 32
    → Of (in_tr b f 2 ++ (in_tr b s 2 ++ (in_r b q 4 ++ in_flags 4 b))) (reads_trellis b f s q)
unfolding reads_trellis joined
trellis_of b f s q hb hf hs hq =
    is_of
    (and_of (tr_of b f hb (omega arith) 2 (omega arith) hf) (and_of (tr_of b s hb (omega arith) 2 (omega arith) hs)
    (and_of (r_of b q hb (omega arith) 4 (omega arith) hq) (flags_of 4 b (omega arith)))))
    (simp or_zero_r)

tmax_of_lem : (b f s : ℕ) → b < 2 → f < 32 → s < 32 → Of (in_tr b f 1 ++ (in_tr b s 1 ++ in_flags 4 b)) (reads_tmax b f s)
unfolding reads_tmax joined
tmax_of_lem b f s hb hf hs =
    is_of
    (and_of (tr_of b f hb hf 1 (omega arith) (omega arith)) (and_of (tr_of b s hb hs 1 (omega arith) (omega arith))
    (flags_of 4 b (omega arith))))
    (simp or_zero_r)

-- places that are asked one by one and lie side by side: DESPREAD's TRs and its THR pair, the Rs of a transfer

next_of : (k i : ℕ) → k + suc i ≡ suc (k + i)
next_of k i = omega arith

one_or_two : (c : Bool) (f : File) (i : ℕ) → places f i 1 ++ when c (places f (suc i) 1) ≡ places f i (pick c 2 1)
one_or_two true f i = refl
one_or_two false f i = refl

despread_trs : (b op t : ℕ) → b < 2 → t < 32 → (op ≡ 13 → t % 2 ≡ 0)
    → Of (in_tr b t 1 ++ when (eqb op 13) (in_tr b (suc t) 1)) (words 0 (side_bits b t (despread_words op)) 0 0)
despread_trs b op t hb ht h =
    rw (next_of (32 * b) t, one_or_two (eqb op 13) TR (32 * b + t)) (go (eqb op 13) refl)
  where
    go : (c : Bool) → eqb op 13 ≡ c → Of (in_tr b t (pick c 2 1)) (words 0 (side_bits b t (pick c 2 1)) 0 0)
    go true e = let k = h (eqb-true op 13 e) in tr_of b t hb ht 2 (omega arith) (omega arith)
    go false e = tr_of b t hb ht 1 (omega arith) (omega arith)

thr_of : (b p n : ℕ) → b < 2 → n ≤ 2 → p + n ≤ 4 → Of (in_thr b p n) (words 0 0 0 (four_bits (bit_from THR) b p n))
thr_of b p n hb hn hp =
    at THR (4 * b + p) (bit_from THR + (4 * b + p)) n (omega arith) (inside THR (4 * b + p) n (omega arith) (omega arith))

despread_thrs : (b p : ℕ) (l : Bool) → b < 2 → p < 3
    → Of (in_thr b p 1 ++ when (not l) (in_thr b (suc p) 1)) (words 0 0 0 (four_bits (bit_from THR) b p (pick l 1 2)))
despread_thrs b p true hb hp = thr_of b p 1 hb (omega arith) (omega arith)
despread_thrs b p false hb hp = rw (next_of (4 * b) p) (thr_of b p 2 hb (omega arith) (omega arith))

despread_of : (b op t f p : ℕ) (l : Bool) → b < 2 → t < 32 → f + 4 ≤ 32 → p < 3 → (op ≡ 13 → t % 2 ≡ 0)
    → Of ((in_tr b t 1 ++ when (eqb op 13) (in_tr b (suc t) 1))
    ++ ((in_thr b p 1 ++ when (not l) (in_thr b (suc p) 1)) ++ (in_r b f 4 ++ in_flags 4 b))) (reads_despread b op t f p l)
unfolding reads_despread joined
despread_of b op t f p l hb ht hf hp h =
    is_of
    (and_of (despread_trs b op t hb ht h) (and_of (despread_thrs b p l hb hp)
    (and_of (r_of b f hb (omega arith) 4 (omega arith) hf) (flags_of 4 b (omega arith)))))
    (simp or_zero_r)

-- op 3 reads no R, op 2 two of them
transfer_rs : (b op f : ℕ) → b < 2 → f < 32 → (op ≡ 2 → f % 2 ≡ 0)
    → Of (when (not (eqb op 3)) (in_r b f 1) ++ when (eqb op 2) (in_r b (suc f) 1))
    (words (side_bits b f (pick (eqb op 3) 0 (pick (eqb op 2) 2 1))) 0 0 0)
transfer_rs b op f hb hf h = rw (next_of (32 * b) f) (go (eqb op 3) refl)
  where
    more : (c : Bool) → eqb op 2 ≡ c → Of (in_r b f (pick c 2 1)) (words (side_bits b f (pick c 2 1)) 0 0 0)
    more true e = let k = h (eqb-true op 2 e) in r_of b f hb hf 2 (omega arith) (omega arith)
    more false e = r_of b f hb hf 1 (omega arith) (omega arith)

    go : (c : Bool) → eqb op 3 ≡ c
        → Of (when (not c) (places R (32 * b + f) 1) ++ when (eqb op 2) (places R (suc (32 * b + f)) 1))
        (words (side_bits b f (pick c 0 (pick (eqb op 2) 2 1))) 0 0 0)
    go true e =
        let k = eqb-true op 3 e in
        rw (ne_eqb op 2 (λ q. omega arith)) (r_of b f hb hf 0 (omega arith) (omega arith))
    go false e = rw (one_or_two (eqb op 2) R (32 * b + f)) (more (eqb op 2) refl)

transfer_of : (b op f : ℕ) → b < 2 → f < 32 → (op ≡ 2 → f % 2 ≡ 0)
    → Of ((when (not (eqb op 3)) (in_r b f 1) ++ when (eqb op 2) (in_r b (suc f) 1)) ++ when (eqb op 3) (in_tr b f 1))
    (reads_transfer b op f)
unfolding reads_transfer joined
transfer_of b op f hb hf h = is_of (and_of (transfer_rs b op f hb hf h) (tr_if b f hb hf (eqb op 3))) (simp or_zero_r)

-- ---- the operands of an IALU slot

operands_of : (ialu f s : ℕ) (c : Bool) → ialu < 2 → f < 32 → (c ≡ true → s < 32)
    → Of (in_ialu ialu f ++ when c (in_ialu ialu s)) (words 0 0 (operand_bits ialu f s c) 0)
unfolding operand_bits joined
operands_of ialu f s c h hf hs = and_of (ialu_if true ialu f h (λ _. hf)) (ialu_if c ialu s h hs)

-- a register with a second number below 33 that is not 32
not_32 : (s : ℕ) → s < 33 → not (eqb s 32) ≡ true → s < 32
not_32 s h e = let k = eqb-false s 32 (not-true (eqb s 32) e) in omega arith

when_both : (c d : Bool) (ps : List Place) → when c (when d ps) ≡ when (c && d) ps
when_both true d ps = refl
when_both false d ps = refl

-- the length that an IALU op asked
abbrev length_held : Machine → ℕ → ℕ → ℕ → ℕ
length_held m ialu op f = word 0 (gets m (when (is_circular op) (in_buffers Length ialu f)))

module _ (m : Machine) (ialu op f : ℕ) (h : ialu < 2) (k : is_circular op ≡ true → f < 4) where
  -- a length that is not 0 was asked
  asked_length : not (eqb (length_held m ialu op f) 0) ≡ true → f < 4
  unfolding gets
  asked_length = go (is_circular op) refl
    where
      go : (c : Bool) → is_circular op ≡ c → not (eqb (word 0 (gets m (when c (in_buffers Length ialu f)))) 0) ≡ true → f < 4
      go true e q = k e
      go false e q = absurd (true≢false (sym q))

  buffers_of : Of (when (is_circular op) (in_buffers Length ialu f) ++ when (not (eqb (length_held m ialu op f) 0)) (in_buffers Base ialu f))
      (words 0 0 0 (buffer_bits ialu f (is_circular op) (length_held m ialu op f)))
  unfolding buffer_bits joined
  buffers_of =
      and_of
      (at_if (is_circular op) Length (4 * ialu + f) (bit_from Length + (4 * ialu + f)) (λ e.
      let q = k e in (omega arith, inside Length (4 * ialu + f) 1 (omega arith) (omega arith))))
      (at_if (not (eqb (length_held m ialu op f) 0)) Base (4 * ialu + f) (bit_from Base + (4 * ialu + f)) (λ e.
      let q = asked_length e in (omega arith, inside Base (4 * ialu + f) 1 (omega arith) (omega arith))))

circular_op : (op : ℕ) → is_circular op ≡ true → (op ≡ 13) ⊎ (21 ≤ op)
circular_op op e =
    ⊎_elim
    (λ q. ⊎_elim (λ r. inl (eqb-true op 13 r)) (λ r. let z = eqb-true op 21 r in inr (omega arith))
    (or_cases (eqb op 13) (eqb op 21) q))
    (λ q. let z = eqb-true op 22 q in inr (omega arith))
    (or_cases (eqb op 13 || eqb op 21) (eqb op 22) e)

-- what a store moves are registers of its file, what a load moves memory words
moved_split : (c : Bool) (file n a w : ℕ)
    → pick c (in_file file n w) (in_memory a w) ≡ in_file file n (pick c w 0) ++ places Memory a (pick c 0 w)
moved_split true file n a w = sym (append-nil (in_file file n w))
moved_split false file n a w = refl

all_or_none : (c : Bool) (n w : ℕ) → w ≤ 4 → n + w ≤ 32 → (pick c w 0 ≤ 4) × (n + pick c w 0 ≤ 32)
all_or_none true n w h k = (h, k)
all_or_none false n w h k = (omega arith, omega arith)

-- ---- a slot

module _ (m : Machine) where
  -- the length that an IALU op holds is the one that it asked
  arith_held : (ialu op f s i : ℕ) → len (values (fetch_arith ialu op f s i) m) ≡ length_held m ialu op f
  unfolding fetch_arith values
  arith_held ialu op f s i = simp values_asks

  arith_covered : (l : Bool) (ialu op t f s i : ℕ) → Valid (Arith ialu op t f s i)
      → Covers (slot_reads l (Arith ialu op t f s i) (values (fetch_arith ialu op f s i) m)) (asked (fetch_arith ialu op f s i) m)
  unfolding slot_reads reads_arith fetch_arith asked joined
  arith_covered l ialu op t f s i v =
      rw (arith_held ialu op f s i)
      (registers_cover
      (is_of
      (and_of (operands_of ialu f s (not (between 8 12 op) && not (eqb s 32)) v.0 (omega arith) (λ e.
      not_32 s (omega arith) (and_right (not (between 8 12 op)) (not (eqb s 32)) e)))
      (buffers_of m ialu op f v.0 (λ e. ⊎_elim v.5 (λ q. absurd (omega arith)) (circular_op op e))))
      (simp or_zero_r))
      (simp (asked_asks, when_both, append_assoc, append-nil)))

  access_covered : (l : Bool) (ialu op w file n f s i : ℕ) → Valid (Access ialu op w file n f s i)
      → Covers (slot_reads l (Access ialu op w file n f s i) (values (fetch_access ialu op w file n f s i) m))
      (asked (fetch_access ialu op w file n f s i) m)
  unfolding slot_reads reads_access joined
  access_covered l ialu op w file n f s i v =
      let few = all_or_none (is_store op) n w (omega arith) (omega arith) in
      rw (access_held m ialu op w file n f s i)
      record {
        regs = _;
        low = address_of m ialu op w file n f s i;
        count = pick (is_store op) 0 w;
        regs_of =
            is_of
            (and_of
            (and_of (operands_of ialu f s (not (eqb s 32)) v.0 (omega arith) (not_32 s (omega arith)))
            (buffers_of m ialu op f v.0 (λ e. ⊎_elim (λ q. absurd (omega arith)) v.6 (circular_op op e))))
            (told_of (file_told file n (pick (is_store op) w 0) (omega arith) (omega arith) few.0 few.1)))
            (simp or_zero_r);
        words_are = refl;
        whole =
            access_asked m ialu op w file n f s i
            ∙ rw (moved_split (is_store op) file n (address_of m ialu op w file n f s i) w) (simp (append_assoc, append-nil));
      }

  -- the place of its index, and what it holds of that
  abbrev quad_read : ℕ → ℕ → ℕ
  quad_read ialu f = quad_at (word 0 (gets m (in_ialu ialu f)))

  -- its length is asked as by any circular op
  dab_load_held : (ialu b f : ℕ)
      → (len (values (fetch_dab_load ialu b f) m) ≡ length_held m ialu 21 f)
      × (quad_at (index (values (fetch_dab_load ialu b f) m)) ≡ quad_read ialu f)
  unfolding fetch_dab_load values
  dab_load_held ialu b f = (simp values_asks, simp values_asks)

  dab_load_covered : (l : Bool) (ialu b t f i : ℕ) → Valid (DabLoad ialu b t f i)
      → Covers (slot_reads l (DabLoad ialu b t f i) (values (fetch_dab_load ialu b f) m)) (asked (fetch_dab_load ialu b f) m)
  unfolding slot_reads reads_dab_load fetch_dab_load asked joined
  dab_load_covered l ialu b t f i v =
      rw ((dab_load_held ialu b f).0, (dab_load_held ialu b f).1)
      record {
        regs = _;
        low = quad_read ialu f;
        count = 4;
        regs_of =
            is_of
            (and_of (ialu_if true ialu f v.0 (λ _. omega arith))
            (and_of (buffers_of m ialu 21 f v.0 (λ _. v.3)) (told_of (dab_told b v.1))))
            (simp or_zero_r);
        words_are = refl;
        whole = simp (asked_asks, append_assoc, append-nil);
      }

  pub read_covered : (l : Bool) (x : Slot) → Valid x
      → Covers (slot_reads l x (values (fetch_of l x) m)) (asked (fetch_of l x) m)
  unfolding slot_reads fetch_alu fetch_shifter fetch_trellis fetch_tmax fetch_despread fetch_transfer fetch_buffer asked
  read_covered l (Alu b op t f s) v =
      registers_cover (pair_of b f s (not (between 8 10 op)) v.0 (omega arith) (omega arith))
      (simp (asked_asks, append-nil))
  read_covered l (Shifter b op t f s) v =
      registers_cover (pair_of b f s (not (leb 8 op)) v.0 (omega arith) (omega arith)) (simp (asked_asks, append-nil))
  read_covered l (Trellis b op t f s q) v =
      registers_cover (trellis_of b f s q v.0 (omega arith) (omega arith) (omega arith)) (simp (asked_asks, append-nil))
  read_covered l (Tmax b op t f s) v =
      registers_cover (tmax_of_lem b f s v.0 (omega arith) (omega arith)) (simp (asked_asks, append-nil))
  read_covered l (Despread b op t f p o) v =
      registers_cover
      (despread_of b op t f p l v.0 (omega arith) (omega arith) (omega arith) (λ e. (v.7 e).0))
      (simp (asked_asks, append_assoc, append-nil))
  read_covered l (Transfer b op t f) v =
      registers_cover (transfer_of b op f v.0 (omega arith) (λ e. (v.4 e).1)) (simp (asked_asks, append_assoc, append-nil))
  read_covered l (Arith ialu op t f s i) v = arith_covered l ialu op t f s i v
  read_covered l (Buffer ialu op t f) v =
      registers_cover (ialu_if true ialu f v.0 (λ _. omega arith)) (simp (asked_asks, append-nil))
  read_covered l (Access ialu op w file n f s i) v = access_covered l ialu op w file n f s i v
  read_covered l (DabLoad ialu b t f i) v = dab_load_covered l ialu b t f i v

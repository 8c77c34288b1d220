-- 01, 'Addresses': a circular access with a length above 0, in a line that is done, touches only words of its buffer, by the
-- base and length before the line; and so along the whole plain run of an image that the check passes.
use mathlib.Core.Path.{◌≡◌, refl, sym, ◌∙◌}
use mathlib.Core.Logic.{◌⊎◌, inl, inr, ⊎_elim}
use mathlib.Core.Bool.{Bool, true, false, not, ◌&&◌, ◌||◌, or-false}
use mathlib.Core.List.{List, [], ◌∷◌, ◌++◌}
use Prim.Native.Nat.{ℕ, zero, suc, ◌+◌, ◌*◌, ◌%◌, ◌≤◌, ◌<◌}
use native.Mathlib.Omega.{arith}
use lib.ListN.{length}
use lib.Dec.{ltb, leb, eqb}
use borrow.Author.Tests.{ltb-false, leb-false, lt-ltb, eqb-true, eqb-false, ne_eqb}
use Rattle.std.proofs.lemmas.Bool.{or_cases, not-false}
use Rattle.word.specs.Ialu.{address}
use Rattle.word.specs.Addresses.{quad_at}
use Rattle.bits.specs.Pick.{pick}
use Rattle.slots.specs.Lists.{All}
use Rattle.slots.specs.Places.{Length, Memory, places}
use Rattle.slots.specs.Conditionals.{unconditional}
use Rattle.slots.specs.declared.conditional_slot.LineSlot.{LineSlot}
use Rattle.slots.specs.Stores.{slot_in}
use Rattle.slots.specs.declared.slot.Slot.{Slot}
use Rattle.slots.specs.declared.slot.Slot.TheVariants.{Alu, Shifter, Trellis, Tmax, Despread, Transfer}
use Rattle.slots.specs.declared.slot.Slot.TheVariants.{Arith, Buffer, Access, DabLoad}
use Rattle.slots.specs.declared.conditional_slot.Conditional.{Conditional}
use Rattle.slots.proofs.Tests.{neither_left, neither_right}
use Rattle.slots.proofs.Valid.{Valid}
use Rattle.line.proofs.Accepted.{Accepted}
use Rattle.image.specs.Check.{lines_of, check_of}
use Rattle.image.proofs.AcceptedImage.{lines_accepted}
use Rattle.machine.specs.Machine.{Machine}
use Rattle.machine.specs.Fetches.{values, asked, targets}
use Rattle.machine.proofs.Fetches.{gets}
use Rattle.machine.proofs.Spans.{when_get}
use Rattle.instructions.specs.Held.{index, modifier, base, len}
use Rattle.instructions.specs.Fetching.{fetch_access, fetch_dab_load, fetch_of}
use Rattle.instructions.specs.Storing.{store_of}
use Rattle.conditional.specs.LineSlots.{live, live_words, fetch_in}
use Rattle.bits.specs.Ops.{is_circular}
use Rattle.refusals.specs.Refusals.{fetch_slot, fetch_each, multiple, outside, misplaced, breaks9, breaks8, rule9, rule8}
use Rattle.execution.specs.PlainLine.{plain_line, refusal_of, line_of}
use Rattle.execution.proofs.NotRefused.{line_slots, not_refused}
use Rattle.instructions.specs.Operands.{length_read, base_read}
use Rattle.instructions.proofs.AccessFetch.{access_held}
use Rattle.instructions.proofs.Fetched.{dab_load_values}
use Rattle.conditional.proofs.LineSlots.{is_live, is_loaded, held_on}
use Rattle.execution.specs.Touches.{memory_of}
use Rattle.execution.proofs.Touched.{touched_words, touched_quad, live_touches, failed_touches}
use Rattle.runs.specs.Plain.{line_steps, plain_from}
use Rattle.theorems.specs.Buffers.{length_of, base_of, Within, Buffered, InBuffer, InBuffers, Along, Every}

-- ---- what a circular access holds

module _ (m : Machine) (ialu op w file n f s i : ℕ) (circular : is_circular op ≡ true) where
  abbrev held : List ℕ
  held = values (fetch_access ialu op w file n f s i) m

  pub length_held_lem : len held ≡ length_of m ialu f
  length_held_lem = rw (access_held m ialu op w file n f s i, circular) (when_get m true Length (4 * ialu + f))

  -- the base is asked only where the length is not 0
  pub base_held : 0 < length_of m ialu f → base held ≡ base_of m ialu f
  unfolding gets
  base_held h = rw (access_held m ialu op w file n f s i, circular, ne_eqb (length_of m ialu f) 0 (λ e. omega arith))

-- ---- an access of w words at a multiple of w, in a buffer whose base and length are multiples of w

multiple_of_2 : (w x : ℕ) → w ≡ 2 → multiple w x ≡ true → x % 2 ≡ 0
multiple_of_2 w x h e = eqb-true (x % 2) 0 (sym (or-false (eqb (x % 2) 0)) ∙ (rw h at e))

multiple_of_4 : (w x : ℕ) → w ≡ 4 → multiple w x ≡ true → x % 4 ≡ 0
multiple_of_4 w x h e = eqb-true (x % 4) 0 (rw h at e)

abbrev Width : ℕ → Type 0
Width w = (w ≡ 1) ⊎ ((w ≡ 2) ⊎ (w ≡ 4))

valid_width : (w : ℕ) → 1 ≤ w → w ≤ 4 → (w ≡ 3 → ⊥) → Width w
valid_width (suc zero) h k d = inl refl
valid_width (suc (suc zero)) h k d = inr (inl refl)
valid_width (suc (suc (suc zero))) h k d = absurd (d refl)
valid_width (suc (suc (suc (suc zero)))) h k d = inr (inr refl)
valid_width zero h k d = absurd (omega arith)
valid_width (suc (suc (suc (suc (suc w))))) h k d = absurd (omega arith)

fits : (w base len a : ℕ) → Width w → multiple w base ≡ true → multiple w len ≡ true → multiple w a ≡ true → a < base + len
    → a + w ≤ base + len
fits w base len a (inl e) b l m h = omega arith
fits w base len a (inr (inl e)) b l m h =
    omega (arith, multiple_of_2 w base e b, multiple_of_2 w len e l, multiple_of_2 w a e m)
fits w base len a (inr (inr e)) b l m h =
    omega (arith, multiple_of_4 w base e b, multiple_of_4 w len e l, multiple_of_4 w a e m)

span_within : (base len a n : ℕ) → base ≤ a → a + n ≤ base + len → All (Within base len) (places Memory a n)
span_within base len a zero h k = tt
span_within base len a (suc n) h k = ((h, omega arith), span_within base len (suc a) n (omega arith) (omega arith))

-- ---- what the rules 9 and 8 say of an access that breaks neither

record Inside (w index base len : ℕ) : Type 0 where
  pub low : base ≤ index
  pub high : index < base + len
  pub base_aligned : multiple w base ≡ true
  pub length_aligned : multiple w len ≡ true

-- the tests of rule 9, of which none holds
none_holds : (a b c d e f : Bool) → (a || b || c || d || not e || not f) ≡ false
    → (a ≡ false) × (b ≡ false) × (e ≡ true) × (f ≡ true)
none_holds a b c d e f h =
    let h1 = neither_left (a || b || c || d || not e) (not f) h in
    let h2 = neither_left (a || b || c) d (neither_left (a || b || c || d) (not e) h1) in
    let h3 = neither_left (a || b) c h2 in (
      neither_left a b h3,
      neither_right a b h3,
      not-false e (neither_right (a || b || c || d) (not e) h1),
      not-false f (neither_right (a || b || c || d || not e) (not f) h),
    )

inside : (size w index modifier base len : ℕ) → 0 < len → outside size w index modifier base len ≡ false
    → Inside w index base len
inside size w index modifier base len h e =
    let q =
    none_holds (ltb index base) (leb (base + len) index) _ (ltb size (base + len)) (multiple w base) (multiple w len)
    (rw (lt-ltb 0 len h) at e) in
    record {
      low = ltb-false index base q.0;
      high = leb-false (base + len) index q.1;
      base_aligned = q.2;
      length_aligned = q.3;
    }

aligned : (size w a : ℕ) → misplaced size w a ≡ false → multiple w a ≡ true
aligned size w a e = not-false (multiple w a) (neither_left (not (multiple w a)) (ltb size (a + w)) e)

-- ---- a slot

-- a circular access modifies its index after
circular_address : (op index modifier : ℕ) → is_circular op ≡ true → address op index modifier ≡ index
unfolding address
circular_address op index modifier c =
    ⊎_elim
    (λ e. ⊎_elim (λ f. at 13 (eqb-true op 13 f) refl) (λ f. at 21 (eqb-true op 21 f) refl) (or_cases (eqb op 13) (eqb op 21) e))
    (λ e. at 22 (eqb-true op 22 e) refl)
    (or_cases (eqb op 13 || eqb op 21) (eqb op 22) c)
  where
    at : (n : ℕ) → op ≡ n → address n index modifier ≡ index → address op index modifier ≡ index
    at n e h = rw e h

-- only a circular access has a length above 0
pub picked_length : (c : Bool) (len : ℕ) → 0 < pick c len 0 → c ≡ true
picked_length true len h = refl
picked_length false len h = absurd (omega arith)

access_inside : (size : ℕ) (m : Machine) (l : Bool) (ialu op w file n f s i : ℕ) → Valid (Access ialu op w file n f s i)
    → let v = values (fetch_access ialu op w file n f s i) m in
    breaks9 size (Access ialu op w file n f s i) v ≡ false
    → breaks8 size (Access ialu op w file n f s i) v ≡ false
    → Buffered m
    (memory_of (asked (fetch_access ialu op w file n f s i) m
    ++ targets (store_of l (Access ialu op w file n f s i) (live_words l v))))
    (Access ialu op w file n f s i)
access_inside size m l ialu op w file n f s i v e9 e8 g =
    rw (touched_words m ialu op w file n f s i l v, c)
    (span_within (base_of m ialu f) (length_of m ialu f) addr w (rw at_index q.low)
    (fits w (base_of m ialu f) (length_of m ialu f) addr (valid_width w v.2.0.0 v.2.0.1 v.2.6) q.base_aligned
    q.length_aligned (aligned size w addr e8) (rw at_index q.high)))
  where
    c : is_circular op ≡ true
    c = picked_length (is_circular op) (length_of m ialu f) g

    h : 0 < length_of m ialu f
    h = rw c at g

    held : List ℕ
    held = values (fetch_access ialu op w file n f s i) m

    addr : ℕ
    addr = address op (index held) (modifier held)

    at_index : addr ≡ index held
    at_index = circular_address op (index held) (modifier held) c

    q : Inside w (index held) (base_of m ialu f) (length_of m ialu f)
    q =
        inside size w (index held) (modifier held) (base_of m ialu f) (length_of m ialu f) h
        (rw (length_held_lem m ialu op w file n f s i c, base_held m ialu op w file n f s i c h) at e9)

-- ---- a load through a data alignment buffer

module _ (m : Machine) (ialu b f : ℕ) where
  abbrev held_by_load : List ℕ
  held_by_load = values (fetch_dab_load ialu b f) m

  load_length : len held_by_load ≡ length_of m ialu f
  unfolding length_read
  load_length = rw (dab_load_values m ialu b f)

  load_base : 0 < length_of m ialu f → base held_by_load ≡ base_of m ialu f
  unfolding length_read base_read
  load_base h = rw (dab_load_values m ialu b f, ne_eqb (length_of m ialu f) 0 (λ e. omega arith))

-- the quad that holds an index of a buffer whose base and length are multiples of 4
quad_within : (index base len : ℕ) → Inside 4 index base len → All (Within base len) (places Memory (quad_at index) 4)
quad_within index base len q =
    let b = multiple_of_4 4 base refl q.base_aligned in
    let l = multiple_of_4 4 len refl q.length_aligned in
    let low = q.low in
    let high = q.high in
    span_within base len (quad_at index) 4 (omega arith) (omega arith)

dab_load_inside : (size : ℕ) (m : Machine) (l : Bool) (ialu b t f i : ℕ) → Valid (DabLoad ialu b t f i)
    → let v = values (fetch_dab_load ialu b f) m in
    breaks9 size (DabLoad ialu b t f i) v ≡ false
    → Buffered m
    (memory_of (asked (fetch_dab_load ialu b f) m ++ targets (store_of l (DabLoad ialu b t f i) (live_words l v))))
    (DabLoad ialu b t f i)
dab_load_inside size m l ialu b t f i v e9 h =
    rw (touched_quad m ialu b t f i l v)
    (quad_within (index (held_by_load m ialu b f)) (base_of m ialu f) (length_of m ialu f)
    (inside size 4 (index (held_by_load m ialu b f)) (modifier (held_by_load m ialu b f)) (base_of m ialu f) (length_of m ialu f) h
    (rw (load_length m ialu b f, load_base m ialu b f h) at e9)))

-- what a live slot of a family touches
family_inside : (size : ℕ) (m : Machine) (l : Bool) (x : Slot) → Valid x → let v = values (fetch_of l x) m in
    breaks9 size x v ≡ false → breaks8 size x v ≡ false
    → Buffered m (memory_of (asked (fetch_of l x) m ++ targets (store_of l x (live_words l v)))) x
family_inside size m l (Alu b op t f s) v e9 e8 = λ h. absurd (omega arith)
family_inside size m l (Shifter b op t f s) v e9 e8 = λ h. absurd (omega arith)
family_inside size m l (Trellis b op t f s q) v e9 e8 = λ h. absurd (omega arith)
family_inside size m l (Tmax b op t f s) v e9 e8 = λ h. absurd (omega arith)
family_inside size m l (Despread b op t f p o) v e9 e8 = λ h. absurd (omega arith)
family_inside size m l (Transfer b op t f) v e9 e8 = λ h. absurd (omega arith)
family_inside size m l (Arith ialu op t f s i) v e9 e8 = λ h. absurd (omega arith)
family_inside size m l (Buffer ialu op t f) v e9 e8 = λ h. absurd (omega arith)
family_inside size m l (Access ialu op w file n f s i) v e9 e8 = access_inside size m l ialu op w file n f s i v e9 e8
family_inside size m l (DabLoad ialu b t f i) v e9 e8 = dab_load_inside size m l ialu b t f i v e9

-- a slot in its line; one whose condition fails touches nothing
slot_inside : (size : ℕ) (m : Machine) (x : LineSlot) → Valid x.slot → let v = values (fetch_in x) m in
    (live v && breaks9 size x.slot v) ≡ false → (live v && breaks8 size x.slot v) ≡ false
    → InBuffer m record { slot = x; held = v }
slot_inside size m x v e9 e8 = go (is_live m x) refl
  where
    go : (b : Bool) → is_live m x ≡ b → InBuffer m record { slot = x; held = values (fetch_in x) m }
    go true on =
        rw (live_touches m x on)
        (family_inside size m (is_loaded m x) x.slot v (rw (held_on m x on) at e9) (rw (held_on m x on) at e8))
    go false off = rw (failed_touches m x off) (λ _. tt)

-- ---- a line, and the run

slots_inside : (m : Machine) (line xs : List Conditional) → All Valid (unconditional xs)
    → rule9 (length m.memory) (fetch_each line m xs) ≡ false → rule8 (length m.memory) (fetch_each line m xs) ≡ false
    → All (InBuffer m) (fetch_each line m xs)
slots_inside m line [] v e9 e8 = tt
slots_inside m line (x ∷ xs) v e9 e8 =
    let size = length m.memory in
    let held = (fetch_slot line m x).held in
    let a = live held && breaks9 size x.slot held in
    let b = live held && breaks8 size x.slot held in (
      slot_inside size m (slot_in line x) v.0 (neither_left a _ e9) (neither_left b _ e8),
      slots_inside m line xs v.1 (neither_right a _ e9) (neither_right b _ e8),
    )

pub line_buffers : (w : List ℕ) → Accepted w → (m : Machine) → (refusal_of (line_of w) m).code ≡ 0 → InBuffers (line_of w) m
line_buffers w a m e =
    let r = not_refused (line_of w) m e in
    slots_inside m (line_of w) (line_of w) (rw (line_slots w a) at a.valid) r.inside r.placed

-- what holds of each accepted line that is done holds along the run
module _ (P : List Conditional → Machine → Type 0)
    (each : (w : List ℕ) → Accepted w → (m : Machine) → (refusal_of (line_of w) m).code ≡ 0 → P (line_of w) m) where
  along_lines : (ws : List (List ℕ)) (m : Machine) → All Accepted ws → Along P ws m
  along_lines [] m h = tt
  along_lines (w ∷ ws) m h = λ e. (each w h.0 m e, along_lines ws (plain_line (line_of w) m) h.1)

  pub along_run : (w : List ℕ) (m : Machine) → (check_of w).code ≡ 0 → Along P (lines_of w) m
  along_run w m e = along_lines (lines_of w) m (lines_accepted w e)

-- every circular access of every line that the run does
pub buffers_kept : (w : List ℕ) (m : Machine) → (check_of w).code ≡ 0 → Along InBuffers (lines_of w) m
buffers_kept w m e = along_run InBuffers line_buffers w m e

-- ---- a run that ends with code 0 has done every line

pub line_done : (lines steps : ℕ) (w : List ℕ) (ws : List (List ℕ)) (m : Machine)
    → (plain_from lines steps (w ∷ ws) m).report.code ≡ 0
    → ((refusal_of (line_of w) m).code ≡ 0)
    × ((plain_from (suc lines) (steps + line_steps (line_of w)) ws (plain_line (line_of w) m)).report.code ≡ 0)
unfolding plain_from
line_done lines steps w ws m z = go (eqb (refusal_of (line_of w) m).code 0) refl
  where
    go : (b : Bool) → eqb (refusal_of (line_of w) m).code 0 ≡ b
        → ((refusal_of (line_of w) m).code ≡ 0)
        × ((plain_from (suc lines) (steps + line_steps (line_of w)) ws (plain_line (line_of w) m)).report.code ≡ 0)
    go true q = (eqb-true _ 0 q, rw q at z)
    go false q = absurd (eqb-false _ 0 q (rw q at z))

every_line : (P : List Conditional → Machine → Type 0) (lines steps : ℕ) (ws : List (List ℕ)) (m : Machine) → Along P ws m
    → (plain_from lines steps ws m).report.code ≡ 0 → Every P ws m
every_line P lines steps [] m h z = tt
every_line P lines steps (w ∷ ws) m h z =
    let (passed, done) = line_done lines steps w ws m z in
    let (here, rest) = h passed in
    (here, every_line P (suc lines) (steps + line_steps (line_of w)) ws (plain_line (line_of w) m) rest done)

pub every_buffer_kept : (w : List ℕ) (m : Machine) → (check_of w).code ≡ 0
    → (plain_from 0 0 (lines_of w) m).report.code ≡ 0 → Every InBuffers (lines_of w) m
every_buffer_kept w m e z = every_line InBuffers 0 0 (lines_of w) m (buffers_kept w m e) z

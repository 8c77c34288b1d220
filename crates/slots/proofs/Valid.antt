-- A slot that was read has each field in the range that 01 gives for its op ('Slots'). The runs index the register files by
-- these bounds.
use mathlib.Core.Path.{◌≡◌, sym, ap, ◌∙◌}
use mathlib.Core.Logic.{⊎_elim}
use mathlib.Core.Bool.{Bool, true, false, not, ◌&&◌, ◌||◌, or-false, false≢true}
use mathlib.Core.List.{List}
use Prim.Native.Nat.{ℕ, ◌+◌, ◌%◌, ◌≤◌, ◌<◌}
use native.Mathlib.Omega.{arith}
use lib.ListN.{get_or}
use lib.Dec.{ltb, leb, eqb}
use borrow.Author.Tests.{ltb-true, leb-true, eqb-true, eq-eqb, ne_eqb, le-leb, lt-leb, le-ltb}
use Rattle.std.proofs.lemmas.Bool.{or_cases}
use Rattle.std.specs.Prelude.{Ok}
use Rattle.slots.specs.Slots.{between, thr_pair, register_unless, operand, alu_fits, shifter_fits, trellis_fits, tmax_fits, despread_fits, transfer_fits, arith_fits, buffer_fits, range_fits, access_fits, dab_fits, dab_block, width_in, file_in, number_in, side_of, read_words, read_fields}
use Rattle.slots.specs.declared.slot.Slot.{Slot}
use Rattle.slots.specs.declared.slot.Slot.TheVariants.{Alu, Shifter, Trellis, Tmax, Despread, Transfer}
use Rattle.slots.specs.declared.slot.Slot.TheVariants.{Arith, Buffer, Access, DabLoad}
use Rattle.slots.proofs.Tests.{and_left, and_right, both, other}
use Rattle.slots.proofs.Reading.{by_family, six_read}

-- ---- the ranges, a field at a time

-- low, high
abbrev pub Between : ℕ → ℕ → ℕ → Type 0
Between low high x = (low ≤ x) × (x ≤ high)

-- a register number that is a multiple of m: below 32, the remainder
abbrev pub Multiple : ℕ → ℕ → Type 0
Multiple m x = (x < 32) × (x % m ≡ 0)

-- 0 or 2: below 3, even
abbrev pub ThrPair : ℕ → Type 0
ThrPair x = (x < 3) × (x % 2 ≡ 0)

-- an IALU's second and imm: below 33; imm is 0 unless second is 32
abbrev pub Operand : ℕ → ℕ → Type 0
Operand s i = (s < 33) × (s < 32 → i ≡ 0)

-- the registers of an access: width, file, number, their end, their end where IALU register 31 is barred; width divides number
abbrev pub Range : ℕ → ℕ → ℕ → Type 0
Range w file n =
    Between 1 4 w × (file < 4) × (n < 32) × (n + w ≤ 32) × (2 ≤ file → n + w ≤ 31)
    × (w ≡ 2 → n % 2 ≡ 0) × (w ≡ 3 → ⊥) × (w ≡ 4 → n % 4 ≡ 0)

-- Above each case the order of its facts, counted from 0: those under a condition come last. `omega` reads the others unasked
abbrev pub Valid : Slot → Type 0
-- block, op, target, first, second; second where unused
Valid (Alu b op t f s) = (b < 2) × Between 1 12 op × (t < 32) × (f < 32) × (s < 32) × (Between 8 10 op → s ≡ 0)
-- block, op, target, first, second; target and second where unused
Valid (Shifter b op t f s) =
    (b < 2) × Between 1 9 op × (t < 32) × (f < 32) × (s < 32) × (op ≡ 7 → t ≡ 0) × (8 ≤ op → s ≡ 0)
-- block, op, target, first, second, quad
Valid (Trellis b op t f s quad) = (b < 2) × Between 1 8 op × Multiple 2 t × Multiple 2 f × Multiple 2 s × Multiple 4 quad
-- block, op, target, first, second
Valid (Tmax b op t f s) = (b < 2) × Between 9 10 op × (t < 32) × (f < 32) × (s < 32)
-- block, op, target, first, pair, old; old where unused; op 13's target and old
Valid (Despread b op t f pair old) =
    (b < 2) × Between 11 13 op × (t < 32) × Multiple 4 f × ThrPair pair × (old < 32)
    × (op ≡ 11 → old ≡ 0) × (op ≡ 13 → (t % 2 ≡ 0) × (old % 2 ≡ 0))
-- block, op, target, first; op 2's target (a THR pair) and first
Valid (Transfer b op t f) =
    (b < 2) × Between 1 3 op × (t < 32) × (f < 32) × (op ≡ 2 → ThrPair t × (f % 2 ≡ 0))
-- ialu, op, target, first, second and imm; op 13's first (a circular buffer); second and imm where unused
Valid (Arith ialu op t f s i) =
    (ialu < 2) × Between 1 14 op × (t < 32) × (f < 32) × Operand s i × (op ≡ 13 → f < 4)
    × (Between 8 12 op → (s ≡ 0) × (i ≡ 0))
-- ialu, op, target, first
Valid (Buffer ialu op t f) = (ialu < 2) × Between 15 16 op × (t < 4) × (f < 32)
-- ialu, op, registers, first, second and imm; an updated first; a first with a circular buffer
Valid (Access ialu op w file n f s i) =
    (ialu < 2) × Between 17 23 op × Range w file n × (f < 32) × Operand s i
    × ((op ≡ 18 → ⊥) → (op ≡ 20 → ⊥) → f < 31) × (21 ≤ op → f < 4)
-- ialu, block, target, first
Valid (DabLoad ialu b t f i) = (ialu < 2) × (b < 2) × Multiple 4 t × (f < 4)

-- ---- what each test tells

between_is : (low high x : ℕ) → between low high x ≡ true → Between low high x
between_is low high x e =
    (leb-true low x (and_left (leb low x) (leb x high) e), leb-true x high (and_right (leb low x) (leb x high) e))

is_between : (low high x : ℕ) → Between low high x → between low high x ≡ true
is_between low high x (l, h) = both (le-leb low x l) (le-leb x high h)

multiple_is : (m x : ℕ) → (ltb x 32 && eqb (x % m) 0) ≡ true → Multiple m x
multiple_is m x e =
    (ltb-true x 32 (and_left (ltb x 32) (eqb (x % m) 0) e), eqb-true (x % m) 0 (and_right (ltb x 32) (eqb (x % m) 0) e))

thr_is : (x : ℕ) → thr_pair x ≡ true → ThrPair x
thr_is x e =
    ⊎_elim (λ h. let z = eqb-true x 0 h in search arith) (λ h. let z = eqb-true x 2 h in search arith)
    (or_cases (eqb x 0) (eqb x 2) e)

-- a field that is unused where `out` holds
unless_lt : (out : Bool) (x : ℕ) → register_unless out x ≡ true → x < 32
unless_lt true x e = let z = eqb-true x 0 e in omega arith
unless_lt false x e = ltb-true x 32 (sym (or-false (ltb x 32)) ∙ e)

unless_zero : (out : Bool) (x : ℕ) → register_unless out x ≡ true → out ≡ true → x ≡ 0
unless_zero true x e h = eqb-true x 0 e
unless_zero false x e h = absurd (false≢true h)

operand_is : (s i : ℕ) → operand s i ≡ true → Operand s i
operand_is s i e =
    ⊎_elim
    (λ h. let l = ltb-true s 32 (and_left (ltb s 32) (eqb i 0) h) in
    (omega arith, λ _. eqb-true i 0 (and_right (ltb s 32) (eqb i 0) h)))
    (λ h. let z = eqb-true s 32 h in (omega arith, λ l. omega arith))
    (or_cases (ltb s 32 && eqb i 0) (eqb s 32) e)

-- what a test asks of op n only
of_op : (n op : ℕ) (b : Bool) → (not (eqb op n) || b) ≡ true → op ≡ n → b ≡ true
of_op n op b e h = other (not (eqb op n)) b e (ap not (eq-eqb op n h))

-- the second and imm of an IALU op that may leave both unused
last_is : (out : Bool) (s i : ℕ) → (out && (eqb s 0 && eqb i 0) || not out && operand s i) ≡ true
    → Operand s i × (out ≡ true → (s ≡ 0) × (i ≡ 0))
last_is true s i e =
    let h : (eqb s 0 && eqb i 0) ≡ true = sym (or-false (eqb s 0 && eqb i 0)) ∙ e in
    let p = eqb-true s 0 (and_left (eqb s 0) (eqb i 0) h) in
    let q = eqb-true i 0 (and_right (eqb s 0) (eqb i 0) h) in
    ((omega arith, λ _. q), λ _. (p, q))
last_is false s i e = (operand_is s i e, λ h. absurd (false≢true h))

-- the conjuncts of a test, and what each tells of its field
ruleset parts = (and_left, and_right)

ruleset part = (ltb-true, eqb-true, between_is, multiple_is, thr_is, unless_lt, operand_is, parts)

-- a range of width w from a multiple of w on ends within 32
width_is : (w n : ℕ) → n < 32 → (eqb w 1 || eqb w 2 && eqb (n % 2) 0 || eqb w 4 && eqb (n % 4) 0) ≡ true
    → Between 1 4 w × (n + w ≤ 32) × (w ≡ 2 → n % 2 ≡ 0) × (w ≡ 3 → ⊥) × (w ≡ 4 → n % 4 ≡ 0)
width_is w n l e =
    ⊎_elim
    (λ g. ⊎_elim (λ h. let w1 = eqb-true w 1 h in search arith)
    (λ h. let w2 : w ≡ 2 = search part in let n2 : n % 2 ≡ 0 = search part in search arith)
    (or_cases (eqb w 1) (eqb w 2 && eqb (n % 2) 0) g))
    (λ h. let w4 : w ≡ 4 = search part in let n4 : n % 4 ≡ 0 = search part in search arith)
    (or_cases (eqb w 1 || eqb w 2 && eqb (n % 2) 0) (eqb w 4 && eqb (n % 4) 0) e)

range_is : (w file n : ℕ) → range_fits w file n ≡ true → Range w file n
unfolding range_fits
range_is w file n e =
    let l : n < 32 = search part depth 9 in
    let (width, end, two, three, four) = width_is w n l (search parts depth 9) in
    let barred : 2 ≤ file → n + w ≤ 31 =
    λ h. leb-true (n + w) 31 (other (ltb file 2) (leb (n + w) 31) (search parts) (le-ltb file 2 h)) in
    search part depth 9

side_lt : (u : ℕ) → side_of u < 2
side_lt u = omega arith

-- the fields of a slot, those that some ops leave unused among them
ruleset fields = (side_lt, part, unless_zero, is_between, eq-eqb, le-leb)

module _ (u op t f s i : ℕ) where
  alu : alu_fits op t f s i ≡ true → Valid (Alu (side_of u) op t f s)
  alu e = search fields depth 9

  shifter : shifter_fits op t f s i ≡ true → Valid (Shifter (side_of u) op t f s)
  shifter e = search fields depth 9

  trellis : trellis_fits op t f s i ≡ true → Valid (Trellis (side_of u) op t f s i)
  trellis e = search fields depth 9

  tmax : tmax_fits op t f s i ≡ true → Valid (Tmax (side_of u) op t f s)
  tmax e = search fields depth 9

  despread : despread_fits op t f s i ≡ true → Valid (Despread (side_of u) op t f s i)
  despread e =
      let pairs : op ≡ 13 → (t % 2 ≡ 0) × (i % 2 ≡ 0) =
      λ h. let g = of_op 13 op (eqb (t % 2) 0 && eqb (i % 2) 0) (search parts) h in search part in
      search fields depth 9

  transfer : transfer_fits op t f s i ≡ true → Valid (Transfer (side_of u) op t f)
  transfer e =
      let pairs : op ≡ 2 → ThrPair t × (f % 2 ≡ 0) =
      λ h. let g = of_op 2 op (thr_pair t && eqb (f % 2) 0) (search parts) h in search part in
      search fields depth 9

  arithmetic : arith_fits op t f s i ≡ true → Valid (Arith (side_of u) op t f s i)
  arithmetic e =
      let circular : op ≡ 13 → f < 4 = λ h. ltb-true f 4 (of_op 13 op (ltb f 4) (search parts) h) in
      let (last, zero) = last_is (between 8 12 op) s i (search parts) in
      let one : Between 8 12 op → (s ≡ 0) × (i ≡ 0) = λ h. zero (is_between 8 12 op h) in
      search fields depth 9

  buffer : buffer_fits op t f s i ≡ true → Valid (Buffer (side_of u) op t f)
  buffer e = search fields depth 9

  access : access_fits op t f s i ≡ true → Valid (Access (side_of u) op (width_in t) (file_in t) (number_in t) f s i)
  access e =
      let range = range_is (width_in t) (file_in t) (number_in t) (search parts) in
      let updated : (op ≡ 18 → ⊥) → (op ≡ 20 → ⊥) → f < 31 =
      λ h g. ltb-true f 31 (other (eqb op 18 || eqb op 20) (ltb f 31) (search parts) (rw (ne_eqb op 18 h, ne_eqb op 20 g))) in
      let circular : 21 ≤ op → f < 4 = λ h. ltb-true f 4 (other (leb op 20) (ltb f 4) (search parts) (lt-leb op 20 h)) in
      search fields depth 9

  dab_load_lem : dab_fits op t f s ≡ true → Valid (DabLoad (side_of u) (dab_block op) t f i)
  dab_load_lem e = let b : dab_block op < 2 = omega arith in search fields depth 9

  words_valid : (x : Slot) → read_words u op t f s i ≡ Ok x → Valid x
  words_valid x =
      by_family Valid x u op t f s i (λ _. alu) (λ _. shifter) (λ _. trellis) (λ _. tmax) (λ _. despread) (λ _. arithmetic)
      (λ _. buffer) (λ _. access) (λ _. dab_load_lem) (λ _. transfer)

pub read_valid : (w : List ℕ) (x : Slot) → read_fields w ≡ Ok x → Valid x
read_valid w x e =
    words_valid (get_or w 0 0) (get_or w 1 0) (get_or w 2 0) (get_or w 3 0) (get_or w 4 0) (get_or w 5 0) x (six_read w e).1

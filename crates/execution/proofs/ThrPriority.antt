-- Under which condition a line loads a THR pair, told by the words of its slots.
use mathlib.Core.Path.{◌≡◌, refl, sym, ap, ◌∙◌}
use mathlib.Core.Bool.{Bool, true, false, ◌&&◌, ◌||◌, or-false}
use mathlib.Core.List.{List}
use Prim.Native.Nat.{ℕ, zero, suc, ◌+◌, ◌<◌}
use native.Mathlib.Omega.{arith}
use lib.ListN.{length, take, get_or}
use lib.Seq.{get_or-take}
use lib.Dec.{eqb}
use borrow.Author.Tests.{eqb-true, eq-eqb, ne_eqb}
use Rattle.std.specs.Prelude.{Result, Ok, Err}
use Rattle.bits.specs.Pick.{pick}
use Rattle.slots.specs.Slots.{field_words, read_code}
use Rattle.slots.specs.Conditionals.{slot_words, never, read_slot}
use Rattle.slots.specs.SlotWords.{words_of_slot}
use Rattle.slots.specs.Families.{on_conditional}
use Rattle.slots.specs.Stores.{loads_pair, load_of, load_condition}
use Rattle.slots.specs.declared.slot.Slot.{Slot}
use Rattle.slots.specs.declared.slot.Slot.TheVariants.{Alu, Shifter, Trellis, Tmax, Despread, Transfer}
use Rattle.slots.specs.declared.slot.Slot.TheVariants.{Arith, Buffer, Access, DabLoad}
use Rattle.slots.specs.declared.conditional_slot.Conditional.{Conditional}
use Rattle.slots.specs.declared.slot.SlotRefusal.{SlotRefusal}
use Rattle.slots.specs.declared.slot.SlotRefusal.TheVariants.{BadFields, BadCondition, BadModifier}
use Rattle.slots.proofs.Tests.{iff}
use Rattle.slots.proofs.Valid.{Valid}
use Rattle.slots.proofs.SlotWords.{read_words_lem}
use Rattle.slots.proofs.ConditionalReads as conditionals
use Rattle.slots.proofs.Others.{NotDespread, not_despread}
use Rattle.known.proofs.KnownFamilies.{known}
use Rattle.execution.specs.PlainLine.{line_of}
use Rattle.execution.proofs.LineSlots.{First, no_slots}

-- ---- one slot

-- a transfer on the block's unit
abbrev block_unit : ℕ → ℕ → Bool
block_unit b u = eqb u 9 && eqb b 0 || eqb u 10 && eqb b 1

-- unit, op and target of a load of pair p
abbrev load_words : ℕ → ℕ → List ℕ → Bool
load_words b p w = (block_unit b (get_or w 0 0) && eqb (get_or w 1 0) 2) && eqb (get_or w 2 0) p

other_unit : (u b : ℕ) (q r : Bool) → u < 9 → ((block_unit b u && q) && r) ≡ false
other_unit u b q r h = rw (ne_eqb u 9 (λ e. omega arith), ne_eqb u 10 (λ e. omega arith))

block_is : (b c : ℕ) → c < 2 → block_unit b (9 + c) ≡ eqb b c
block_is b zero h = or-false (eqb b 0)
block_is b (suc zero) h = refl
block_is b (suc (suc c)) h = absurd (omega arith)

pair_is : (p t : ℕ) → eqb t p ≡ eqb p t
pair_is p t = iff (eqb t p) (eqb p t) (λ e. eq-eqb p t (sym (eqb-true t p e))) (λ e. eq-eqb t p (sym (eqb-true p t e)))

turn : (a b c : Bool) → ((a && b) && c) ≡ ((b && a) && c)
turn true true c = refl
turn true false c = refl
turn false true c = refl
turn false false c = refl

words_load : (b p : ℕ) (x : Slot) → Valid x → load_words b p (words_of_slot x) ≡ loads_pair b p x
words_load b p (Alu c op t f s) v = other_unit (1 + c) b _ _ (omega arith)
words_load b p (Shifter c op t f s) v = other_unit (3 + c) b _ _ (omega arith)
words_load b p (Trellis c op t f s q) v = other_unit (5 + c) b _ _ (omega arith)
words_load b p (Tmax c op t f s) v = other_unit (5 + c) b _ _ (omega arith)
words_load b p (Despread c op t f q o) v = other_unit (5 + c) b _ _ (omega arith)
words_load b p (Transfer c op t f) v = rw (block_is b c v.0, pair_is p t) (turn (eqb b c) (eqb op 2) (eqb p t))
words_load b p (Arith ialu op t f s i) v = other_unit (7 + ialu) b _ _ (omega arith)
words_load b p (Buffer ialu op t f) v = other_unit (7 + ialu) b _ _ (omega arith)
words_load b p (Access ialu op w file n f s i) v = other_unit (7 + ialu) b _ _ (omega arith)
words_load b p (DabLoad ialu c t f i) v = other_unit (7 + ialu) b _ _ (omega arith)

-- unit, op and target are among the fields
fields_load : (b p : ℕ) (w : List ℕ) → load_words b p (take field_words w) ≡ load_words b p w
fields_load b p w =
    rw (get_or-take 6 w 0 0 (omega arith), get_or-take 6 w 1 0 (omega arith), get_or-take 6 w 2 0 (omega arith))

abbrev loads : ℕ → ℕ → Conditional → Bool
loads b p x = loads_pair b p x.slot

pub slot_seven : (w : List ℕ) → read_code (read_slot w) ≡ 0 → length w ≡ slot_words
slot_seven w e = (known w e).seven

pub slot_loads : (b p : ℕ) (w : List ℕ) → read_code (read_slot w) ≡ 0
    → load_words b p w ≡ on_conditional false (loads b p) (read_slot w)
slot_loads b p w e = go (read_slot w) refl e
  where
    go : (r : Result Conditional SlotRefusal) → read_slot w ≡ r → read_code r ≡ 0
        → load_words b p w ≡ on_conditional false (loads b p) r
    go (Ok x) q _ =
        sym (fields_load b p w)
        ∙ ap (load_words b p) (sym (read_words_lem (take field_words w) x.slot (conditionals.slot_found w x q).fields))
        ∙ words_load b p x.slot (conditionals.slot_valid w x q)
    go (Err BadFields) q c = absurd (omega arith)
    go (Err BadCondition) q c = absurd (omega arith)
    go (Err BadModifier) q c = absurd (omega arith)

-- ---- the line

-- the first slot of the words left, and those after it
pub next_load : {w words rest : List ℕ} (f : First w words rest) (b q : ℕ) {r : Bool}
    → r ≡ on_conditional false (loads b q) (read_slot words)
    → load_of b q (line_of w) ≡ pick r (get_or words field_words 0) (load_of b q (line_of rest))
next_load {w} {words} f b q e = rw (e, f.line, f.is, (conditionals.slot_found words f.slot f.is).its_condition)

pub no_load : (w : List ℕ) (b q : ℕ) → length w < slot_words → load_of b q (line_of w) ≡ never
no_load w b q h = rw (no_slots w h)

pub no_shift : (line : List Conditional) (x : Slot) → NotDespread x → never ≡ load_condition line x
no_shift line x h = sym (not_despread never (λ b op t f p o. load_of b p line) x h)

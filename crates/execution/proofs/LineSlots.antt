-- The slots of a line that passed the check, found one after another in its words.
use mathlib.Core.Path.{◌≡◌, refl, ap}
use mathlib.Core.Bool.{Bool, true, false}
use mathlib.Core.List.{List, [], ◌∷◌, ◌++◌}
use Prim.Native.Nat.{ℕ, ◌*◌, ◌/◌, ◌≤◌, ◌<◌}
use native.Mathlib.Omega.{arith}
use lib.ListN.{length}
use Rattle.std.specs.Prelude.{Result, Ok, Err}
use Rattle.bits.specs.Pick.{pick}
use Rattle.slots.specs.Lists.{All, nth_of}
use Rattle.slots.specs.Slots.{read_code}
use Rattle.slots.specs.Conditionals.{slot_words, read_slot, unconditional}
use Rattle.slots.specs.declared.conditional_slot.Conditional.{Conditional}
use Rattle.slots.specs.declared.slot.SlotRefusal.{SlotRefusal}
use Rattle.slots.specs.declared.slot.SlotRefusal.TheVariants.{BadFields, BadCondition, BadModifier}
use Rattle.slots.proofs.Valid.{Valid}
use Rattle.line.specs.Rules.{verdict, slots_of, reads_verdict}
use Rattle.line.specs.Lines.{sized, reads, read_line, line_verdict}
use Rattle.line.proofs.LineVerdicts.{first_read}
use Rattle.line.proofs.Accepted.{as_read, accepted_line}
use Rattle.execution.specs.PlainLine.{line_of}
use Rattle.execution.proofs.NotRefused.{line_slots}

-- every slot of the words can be read
abbrev pub Readable : List ℕ → Type 0
Readable w = read_line w ≡ as_read (line_of w)

-- ---- a line that passed the check

pub record Passed (w : List ℕ) : Type 0 where
  pub four : length (line_of w) ≤ 4
  pub words : length w ≡ slot_words * length (line_of w)
  pub readable : Readable w
  pub valid : All Valid (unconditional (line_of w))

-- and its words are those of one to four slots; a line of no words is Passed, too
pub record PassedSized (w : List ℕ) : Type 0 where
  pub whole : sized (length w) ≡ true
  pub passed : Passed w

pub passed_sized : (w : List ℕ) → (line_verdict w).code ≡ 0 → PassedSized w
unfolding line_verdict
passed_sized w e = go (sized (length w)) refl e
  where
    go : (b : Bool) → sized (length w) ≡ b → (pick b (reads_verdict (read_line w)) (verdict 2 0)).code ≡ 0 → PassedSized w
    go true z ok =
        let a = accepted_line w z ok in
        let same = line_slots w a in
        record {
          whole = z;
          passed = record {
            four = rw same at a.four_slots;
            words = rw same at a.words;
            readable = rw same at a.readable;
            valid = rw same at a.valid;
          };
        }
    go false z ok = absurd (omega arith)

pub passed : (w : List ℕ) → (line_verdict w).code ≡ 0 → Passed w
passed w e = (passed_sized w e).passed

pub slot_count : (w : List ℕ) → Passed w → length w / slot_words ≡ length (line_of w)
slot_count w p = let q = p.words in omega arith

-- ---- the first slot of some words

-- r comes before rs, and all of them are slots
slot_first : (xs : List Conditional) (r : Result Conditional SlotRefusal) (rs : List (Result Conditional SlotRefusal)) → r ∷ rs ≡ as_read xs
    → read_code r ≡ 0
slot_first [] r rs e = absurd cc
slot_first (x ∷ xs) r rs e = ap (λ (qs : List (Result Conditional SlotRefusal)). read_code (nth_of (λ q. q) (Ok x) 0 qs)) e

pub record First (w words rest : List ℕ) : Type 0 where
  pub slot : Conditional
  pub is : read_slot words ≡ Ok slot
  pub line : line_of w ≡ slot ∷ line_of rest
  pub good : Readable rest

pub first : (w words rest : List ℕ) → w ≡ words ++ rest → length words ≡ slot_words → Readable w → First w words rest
first w words rest cut seven good = go (read_slot words) refl (rw next at good)
  where
    next : read_line w ≡ read_slot words ∷ read_line rest
    next = rw cut (first_read words rest seven)

    go : (r : Result Conditional SlotRefusal) → read_slot words ≡ r → r ∷ read_line rest ≡ as_read (slots_of (r ∷ read_line rest))
        → First w words rest
    go (Ok x) e q = record { slot = x; is = e; line = rw (next, e); good = cc }
    go (Err BadFields) e q = absurd (let c = slot_first _ _ _ q in omega arith)
    go (Err BadCondition) e q = absurd (let c = slot_first _ _ _ q in omega arith)
    go (Err BadModifier) e q = absurd (let c = slot_first _ _ _ q in omega arith)

pub first_code : {w words rest : List ℕ} → First w words rest → read_code (read_slot words) ≡ 0
first_code f = ap read_code f.is

-- no words of a slot are left
pub no_slots : (w : List ℕ) → length w < slot_words → line_of w ≡ []
unfolding reads
no_slots w h = let n : length w / slot_words ≡ 0 = omega arith in rw n

-- A line's slots fetched one after another into the code's array, and stored one after another.
use mathlib.Core.Path.{◌≡◌, refl, sym, ap, ◌∙◌}
use mathlib.Core.Bool.{true}
use mathlib.Core.List.{List, [], ◌∷◌, ◌++◌, append-nil, append_assoc}
use Prim.Native.Nat.{ℕ, zero, suc, ◌+◌, ◌/◌, ◌≤◌, ◌<◌}
use native.Mathlib.Numerals.{add-one}
use native.Mathlib.Omega.{arith}
use lib.ListN.{length, take, drop, get_or, set, length-set, drop_of_length-le}
use lib.Seq.{drop-cons}
use borrow.Author.Tests.{ne_eqb}
use Rattle.std.specs.Prelude.{Result, Ok, Err}
use Rattle.std.proofs.lemmas.List.{take_more_set, drop-set-lt}
use Rattle.std.proofs.lemmas.Grind.{drop_more_same}
use Rattle.slots.specs.Slots.{field_words}
use Rattle.slots.specs.Conditionals.{slot_words, read_slot, conditional, line_slot}
use Rattle.slots.specs.Stores.{load_condition, slot_in}
use Rattle.slots.specs.declared.slot.Slot.{Slot}
use Rattle.slots.specs.declared.slot.SlotRefusal.{SlotRefusal}
use Rattle.slots.specs.declared.conditional_slot.Conditional.{Conditional}
use Rattle.machine.specs.Machine.{Machine}
use Rattle.machine.specs.Fetches.{values, puts}
use Rattle.machine.proofs.Spans.{puts_append}
use Rattle.conditional.specs.LineSlots.{fetch_in, store_in}
use Rattle.conditional.specs.declared.line_slot.Fetched.{Fetched}
use Rattle.instructions.specs.Held.{end_held}
use Rattle.conditional.proofs.LineSlots.{end_held_in}
use Rattle.refusals.specs.Refusals.{fetch_each, fetch_line}
use Rattle.refusals.specs.MemoryUses.{use_of, none_judged, judge, judge_all, verdict_of as judged_of}
use Rattle.refusals.specs.declared.judged.Judged.{Judged}
use Rattle.refusals.proofs.Judgements.{judged_verdict}
use Rattle.line.specs.Rules.{verdict}
use Rattle.line.specs.Verdicts.{Verdict, rule_code, verdict_of}
use Rattle.line.specs.declared.rules.Broken.{Broken}
use Rattle.line.proofs.RuleCodes.{some_code}
use Rattle.execution.specs.PlainLine.{stores_of, line_of, plain_line, refusal_of, line_end}
use Rattle.execution.proofs.LineSlots.{Readable, Passed, slot_count, First, no_slots}

module _ (line : List Conditional) (m : Machine) where
  pub fetch_length : (xs : List Conditional) → length (fetch_each line m xs) ≡ length xs
  fetch_length [] = refl
  fetch_length (x ∷ xs) = ap suc (fetch_length xs)

-- ---- the fetches

-- the s slots before the words left are fetched and judged, and places behind them are as they were
pub record Turn (w : List ℕ) (m : Machine) (old : List Fetched) (s : ℕ) (fetched : List Fetched) (judged : Judged) (left : List ℕ) : Type 0 where
  pub good : Readable left
  pub count : s + length (line_of left) ≡ length (line_of w)
  pub room : length fetched ≡ 4
  pub behind : drop s fetched ≡ drop s old
  pub placed : take s fetched ++ fetch_each (line_of w) m (line_of left) ≡ fetch_line (line_of w) m
  pub uses :
      judge_all (length m.memory) s judged (fetch_each (line_of w) m (line_of left))
      ≡ judge_all (length m.memory) 0 none_judged (fetch_line (line_of w) m)

module _ (w : List ℕ) (p : Passed w) (m : Machine) where
  pub turn_first : {fetched : List Fetched} {judged : Judged} {left : List ℕ} → length fetched ≡ 4 → judged ≡ none_judged → left ≡ w
      → Turn w m fetched 0 fetched judged left
  turn_first r j e =
      record { good = rw e p.readable; count = rw e (omega arith); room = r; behind = refl; placed = rw e; uses = rw (e, j) }

  module _ {old : List Fetched} {s : ℕ} {fetched : List Fetched} {judged : Judged} {left : List ℕ}
      (t : Turn w m old s fetched judged left) where
    -- a slot that is left has a place
    pub place : {words rest : List ℕ} → First left words rest → s < 4
    place f = let n = p.four in omega (arith, t.count, ap length f.line)

    -- the first slot of the words left, with its condition, and the load of the pair that it shifts
    module _ {words rest : List ℕ} (f : First left words rest) {x : Slot} {l : ℕ} {h : List ℕ}
        (k : read_slot words ≡ Ok (conditional x (get_or words field_words 0))) (q : l ≡ load_condition (line_of w) x)
        (j : h ≡ values (fetch_in (line_slot x (get_or words field_words 0) l)) m) where
      abbrev slot : Fetched
      slot = record { slot = line_slot x (get_or words field_words 0) l; held = h }

      slots : line_of left ≡ conditional x (get_or words field_words 0) ∷ line_of rest
      slots = f.line ∙ ap (λ (y : Conditional). y ∷ line_of rest) (same (read_slot words) f.is k)
        where
          same : (r : Result Conditional SlotRefusal) {a b : Conditional} → r ≡ Ok a → r ≡ Ok b → a ≡ b
          same r e f = cc

      fetches : fetch_each (line_of w) m (line_of left) ≡ slot ∷ fetch_each (line_of w) m (line_of rest)
      fetches = rw (slots, j, q)

      -- s by the name of i, and s + 1 by that of n
      pub turn_next : {i n : ℕ} {g : Judged} → i ≡ s → n ≡ s + 1 → g ≡ judge judged i (use_of (length m.memory) x h)
          → Turn w m old n (set fetched i slot) g rest
      unfolding judge_all
      turn_next a b e =
          rw (b, e, a)
          record {
            good = f.good;
            count = omega (arith, t.count, ap length slots);
            room = simp length-set t.room;
            behind = drop-set-lt (s + 1) fetched s slot (omega arith) ∙ drop_more_same fetched old s t.behind;
            placed =
                rw (take_more_set fetched s slot (omega (arith, place f, t.room)), append_assoc)
                (rw fetches at t.placed);
            uses = rw (add-one s) (rw fetches at t.uses);
          }

    pub turn_last : length left < slot_words → {v : Verdict} → v ≡ judged_of judged
        → (v ≡ refusal_of (line_of w) m) × (take (length w / slot_words) fetched ≡ fetch_line (line_of w) m)
        × (drop (length w / slot_words) fetched ≡ drop (length w / slot_words) old)
    unfolding refusal_of judge_all
    turn_last h e = (
      e ∙ ap judged_of (rw none at t.uses)
          ∙ judged_verdict (length m.memory) (fetch_line (line_of w) m) (let n = p.four in omega (arith, fetch_length (line_of w) m (line_of w))),
      ap (λ (k : ℕ). take k fetched) (slot_count w p ∙ sym all) ∙ sym (append-nil (take s fetched)) ∙ (rw none at t.placed),
      rw (slot_count w p ∙ sym all) t.behind,
    )
      where
        none : line_of left ≡ []
        none = no_slots left h

        all : s ≡ length (line_of w)
        all = omega (arith, rw none at t.count)

-- ---- the stores

module _ (line : List Conditional) (m : Machine) where
  each_end : (i : ℕ) (xs : List Conditional) (d : Fetched) → i < length (fetch_each line m xs)
      → end_held (get_or (fetch_each line m xs) i d).slot.slot (get_or (fetch_each line m xs) i d).held ≡ true
  each_end i [] d h = absurd (omega arith)
  each_end zero (x ∷ xs) d h = end_held_in m (slot_in line x)
  each_end (suc i) (x ∷ xs) d h = each_end i xs d (omega arith)

  module _ {xs : List Fetched} (e : xs ≡ fetch_line line m) (i : ℕ) where
    pub held_end : (d : Fetched) → i < length xs → end_held (get_or xs i d).slot.slot (get_or xs i d).held ≡ true
    held_end d h = rw e (each_end i line d (rw e at h))

    pub next_store : (d : Fetched) (c : Machine) → i < length xs
        → puts (stores_of (drop i xs)) c
        ≡ puts (stores_of (drop (i + 1) xs)) (puts (store_in (get_or xs i d).slot.slot (get_or xs i d).held) c)
    next_store d c h =
        rw (drop-cons xs i d h, add-one i)
        (puts_append (store_in (get_or xs i d).slot.slot (get_or xs i d).held) (stores_of (drop (suc i) xs)) c)

pub no_more_stores : (xs : List Fetched) (i : ℕ) (c : Machine) → length xs ≤ i → puts (stores_of (drop i xs)) c ≡ c
unfolding puts
no_more_stores xs i c h = rw (drop_of_length-le xs h)

-- ---- the line's end

module _ (line : List Conditional) (m : Machine) where
  pub refused : {r : Result (Unit {0}) Broken} {e : Broken} → r ≡ Err e → verdict_of r ≡ refusal_of line m → m ≡ line_end line m
  unfolding line_end
  refused {r} {e} i h =
      let code : (refusal_of line m).code ≡ rule_code e.rule = ap (λ (v : Verdict). v.code) (sym h ∙ ap verdict_of i) in
      sym (rw (ne_eqb (refusal_of line m).code 0 (λ z. some_code e.rule (sym code ∙ z))))

  pub ran : {r : Result (Unit {0}) Broken} {x : Unit {0}} → r ≡ Ok x → verdict_of r ≡ refusal_of line m
      → (verdict 0 0 ≡ refusal_of line m) × (plain_line line m ≡ line_end line m)
  unfolding line_end
  ran {r} {x} i h =
      let none : verdict 0 0 ≡ refusal_of line m = sym (ap verdict_of i) ∙ h in
      (none, rw (← none))

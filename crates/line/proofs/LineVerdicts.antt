-- The verdict of the pass over a line's words is the verdict on its slots.
use mathlib.Core.Path.{◌≡◌, refl, sym, ap, ◌∙◌}
use mathlib.Core.List.{List, [], ◌∷◌, ◌++◌}
use mathlib.Core.Bool.{Bool, true, false, not}
use Prim.Native.Nat.{ℕ, zero, suc, ◌+◌, ◌*◌, ◌/◌, ◌≤◌, ◌<◌}
use native.Mathlib.Omega.{arith}
use lib.ListN.{length, take, drop, get_or, length-append}
use lib.Seq.{get_or-take, take-append_seam, drop-append_seam}
use Rattle.std.specs.Prelude.{None, is_some, Result, Ok, Err}
use lib.Dec.{ltb}
use borrow.Author.Tests.{ltb-true, ltb-false}
use Rattle.slots.specs.Lists.{All}
use Rattle.slots.specs.Slots.{field_words, read_fields}
use Rattle.slots.specs.Conditionals.{slot_words, modifier_fits, read_slot, unconditional}
use Rattle.line.specs.Lines.{sized, reads, read_line}
use Rattle.line.specs.Rules.{unit_of, verdict, slots_of, reads_verdict}
use Rattle.line.specs.Pass.{count_word, slot_counts, usage_of, no_counts, none_seen, note, note_all, see, chosen, pass}
use Rattle.slots.specs.declared.slot.Slot.{Slot}
use Rattle.slots.specs.declared.conditional_slot.Conditional.{Conditional}
use Rattle.slots.specs.declared.slot.SlotRefusal.{SlotRefusal}
use Rattle.slots.specs.declared.slot.SlotRefusal.TheVariants.{BadFields, BadCondition, BadModifier}
use Rattle.line.specs.declared.rules.Seen.{Seen}
use Rattle.slots.proofs.ConditionalReads.{slot_valid, fields_refused, condition_refused, modifier_refused, read_whole}
use Rattle.slots.proofs.ReadCodes.{fields_bad}
use Rattle.slots.proofs.SlotWords.{read_words_lem}
use Rattle.slots.proofs.Valid.{Valid}
use Rattle.line.proofs.Lines.{reads_length, Whole, whole_line}
use Rattle.line.proofs.Counts.{slot_few}
use Rattle.line.proofs.Verdicts.{slots_verdict_lem}
use Rattle.line.proofs.Noted.{not_noted, noted_now}
use Rattle.line.proofs.BadReads.{read_noted, condition_first, condition_verdict, modifier_verdict}
use Rattle.slots.proofs.Tests.{or_left, or_right}

-- what was read and is a slot is a slot in range
abbrev pub Ranged : List (Result Conditional SlotRefusal) → Type 0
Ranged [] = Unit {0}
Ranged (r ∷ rs) = ((x : Conditional) → r ≡ Ok x → Valid x.slot) × Ranged rs

pub reads_ranged : (n : ℕ) (w : List ℕ) → Ranged (reads n w)
unfolding reads
reads_ranged zero w = tt
reads_ranged (suc n) w = (slot_valid (take slot_words w), reads_ranged n (drop slot_words w))

pub slots_valid : (rs : List (Result Conditional SlotRefusal)) → Ranged rs → All Valid (unconditional (slots_of rs))
slots_valid [] a = tt
slots_valid (Ok x ∷ rs) a = (a.0 x refl, slots_valid rs a.1)
slots_valid (Err e ∷ rs) a = slots_valid rs a.1

-- ---- what is read of a line, one slot after another

pass_reads : (rs : List (Result Conditional SlotRefusal)) → length rs ≤ 4 → Ranged rs → pass none_seen rs ≡ reads_verdict rs
unfolding pass reads_verdict see note_all
pass_reads [] h v = slots_verdict_lem [] h tt
pass_reads (Err BadFields ∷ rs) h v = refl
pass_reads (Err BadCondition ∷ rs) h v = condition_verdict 0 None 1 3 rs (omega arith) (omega arith)
pass_reads (Err BadModifier ∷ rs) h v =
    modifier_verdict 0 1 3 rs (omega arith) (omega arith) (omega arith)
pass_reads (Ok x ∷ []) h v = slots_verdict_lem (x.slot ∷ []) h (slots_valid (Ok x ∷ []) v)
pass_reads (Ok x ∷ Err BadFields ∷ rs) h v = refl
pass_reads (Ok x ∷ Err BadCondition ∷ rs) h v = condition_verdict 1 None 2 2 rs (omega arith) (omega arith)
pass_reads (Ok x ∷ Err BadModifier ∷ rs) h v =
    modifier_verdict 1 2 2 rs (omega arith) (omega arith) (omega arith)
pass_reads (Ok x ∷ Ok y ∷ []) h v = slots_verdict_lem (x.slot ∷ y.slot ∷ []) h (slots_valid (Ok x ∷ Ok y ∷ []) v)
pass_reads (Ok x ∷ Ok y ∷ Err BadFields ∷ rs) h v = refl
pass_reads (Ok x ∷ Ok y ∷ Err BadCondition ∷ rs) h v = condition_verdict 2 None 3 1 rs (omega arith) (omega arith)
pass_reads (Ok x ∷ Ok y ∷ Err BadModifier ∷ rs) h v =
    modifier_verdict 2 3 1 rs (omega arith) (omega arith) (omega arith)
pass_reads (Ok x ∷ Ok y ∷ Ok z ∷ []) h v =
    slots_verdict_lem (x.slot ∷ y.slot ∷ z.slot ∷ []) h (slots_valid (Ok x ∷ Ok y ∷ Ok z ∷ []) v)
pass_reads (Ok x ∷ Ok y ∷ Ok z ∷ Err BadFields ∷ rs) h v = refl
pass_reads (Ok x ∷ Ok y ∷ Ok z ∷ Err BadCondition ∷ rs) h v =
    condition_verdict 3 None 4 0 rs (omega arith) (omega arith)
pass_reads (Ok x ∷ Ok y ∷ Ok z ∷ Err BadModifier ∷ rs) h v =
    modifier_verdict 3 4 0 rs (omega arith) (omega arith) (omega arith)
pass_reads (Ok x ∷ Ok y ∷ Ok z ∷ Ok t ∷ []) h v =
    slots_verdict_lem (x.slot ∷ y.slot ∷ z.slot ∷ t.slot ∷ []) h (slots_valid (Ok x ∷ Ok y ∷ Ok z ∷ Ok t ∷ []) v)
pass_reads (Ok x ∷ Ok y ∷ Ok z ∷ Ok t ∷ r ∷ rs) h v = absurd (omega arith)

pub pass_line : (w : List ℕ) → sized (length w) ≡ true → pass none_seen (read_line w) ≡ reads_verdict (read_line w)
pass_line w e = pass_reads (read_line w) (few (whole_line w e)) (reads_ranged (length w / slot_words) w)
  where
    few : Whole w → length (read_line w) ≤ 4
    few h = let n = reads_length (length w / slot_words) w in omega (arith, h.words, h.four)

-- ---- the code's turns

pub first_read : (slot rest : List ℕ) → length slot ≡ slot_words → read_line (slot ++ rest) ≡ read_slot slot ∷ read_line rest
unfolding reads
first_read slot rest h =
    let n : length (slot ++ rest) / slot_words ≡ suc (length rest / slot_words) = simp length-append (omega arith) in
    rw (n, ← h, take-append_seam, drop-append_seam)

-- seen is what the slots before the words `left` leave: they give the line's verdict
pub record Turn (w : List ℕ) (seen : Seen) (left : List ℕ) : Type 0 where
  pub words : length w ≡ slot_words * seen.slots + length left
  pub few : seen.counts ≤ no_counts + count_word 1 0 0 1 * seen.slots
  pub same : pass seen (read_line left) ≡ pass none_seen (read_line w)

pub turn_first : (w : List ℕ) → Turn w none_seen w
turn_first w = record { words = omega arith; few = omega arith; same = refl }

module _ (w : List ℕ) (sizes : sized (length w) ≡ true) (seen : Seen) (left : List ℕ) (turn : Turn w seen left) where
  -- the words of one more slot
  module _ (slot rest : List ℕ) (cut : left ≡ slot ++ rest) (seven : length slot ≡ slot_words) where
    cut_length : length left ≡ slot_words + length rest
    cut_length = rw cut (simp length-append (omega arith))

    pub slot_fits : seen.slots < 4
    slot_fits = go (whole_line w sizes)
      where
        go : Whole w → seen.slots < 4
        go h = omega (arith, h.words, h.four, turn.words, cut_length)

    pub counts_fit : (x : Slot) → seen.counts + slot_counts x < 4294967296
    counts_fit x = omega (arith, turn.few, slot_few x, slot_fits)

    abbrev condition : ℕ
    condition = get_or slot field_words 0

    next : read_line left ≡ read_slot slot ∷ read_line rest
    next = rw cut (first_read slot rest seven)

    module _ {q : Result Slot SlotRefusal} (fields : q ≡ read_fields (take field_words slot)) where
      pub turn_refused : {bad : SlotRefusal} → q ≡ Err bad → verdict 3 seen.slots ≡ reads_verdict (read_line w)
      unfolding pass
      turn_refused r =
          sym (rw (next, ← fields_refused slot seven fields r, fields_bad (take field_words slot) _ (sym fields ∙ r)))
          ∙ turn.same ∙ pass_line w sizes

      module _ {x : Slot} (r : q ≡ Ok x) where
        abbrev seen_next : Bool → Bool → Seen
        seen_next bad wrong = see seen (usage_of (get_or slot 0 0) x) bad wrong

        abbrev others : List (Result Conditional SlotRefusal)
        others = read_line rest

        -- a slot's unit is its first word
        unit_is : unit_of x ≡ get_or slot 0 0
        unit_is =
            ap (λ (u : List ℕ). get_or u 0 0) (read_words_lem (take field_words slot) x (sym fields ∙ r))
            ∙ get_or-take field_words slot 0 0 (omega arith)

        good : condition ≤ 12 → modifier_fits x ≡ true → pass (seen_next false false) others ≡ pass seen (read_line left)
        unfolding pass
        good h m =
            ap (λ (u : ℕ). pass (see seen (usage_of u x) false false) others) (sym unit_is)
            ∙ sym (rw (next, ← read_whole slot seven fields r h m))

        bad : (wrong : Bool) → 12 < condition → pass (seen_next true wrong) others ≡ pass seen (read_line left)
        unfolding pass see note_all
        bad wrong h =
            let now = noted_now seen.noted.condition seen.slots in
            read_noted (seen_next true wrong) _ _ others refl refl (or_left _ now) refl
            ∙ condition_first _ (note seen.noted.modifier seen.slots wrong) seen.noted.modifier (seen.slots + 1) others now
            ∙ sym (rw (next, ← condition_refused slot seven fields r h))

        wrong : condition ≤ 12 → modifier_fits x ≡ false → pass (seen_next false true) others ≡ pass seen (read_line left)
        unfolding pass see note_all
        wrong h m =
            read_noted (seen_next false true) _ _ others (not_noted seen.noted.condition seen.slots) refl
            (or_right (is_some seen.noted.condition) (noted_now seen.noted.modifier seen.slots)) refl
            ∙ sym (rw (next, ← modifier_refused slot seven fields r h m))

        next_turn : (b m : Bool) → pass (seen_next b m) others ≡ pass seen (read_line left) → Turn w (seen_next b m) rest
        unfolding see
        next_turn b m p =
            record {
              words = omega (arith, turn.words, cut_length);
              few = omega (arith, turn.few, slot_few x);
              same = p ∙ turn.same;
            }

        pub turn_next : {m : Bool} → m ≡ modifier_fits x → Turn w (seen_next (ltb 12 condition) (not m)) rest
        turn_next {m} q = go (ltb 12 condition) m refl q
          where
            go : (t m : Bool) → ltb 12 condition ≡ t → m ≡ modifier_fits x → Turn w (seen_next t (not m)) rest
            go true m p q = next_turn true (not m) (bad (not m) (ltb-true 12 condition p))
            go false true p q = next_turn false false (good (ltb-false 12 condition p) (sym q))
            go false false p q = next_turn false true (wrong (ltb-false 12 condition p) (sym q))

  pub turn_last : length left < slot_words → chosen seen.noted ≡ reads_verdict (read_line w)
  unfolding pass reads
  turn_last h =
      let n : length left / slot_words ≡ 0 = omega arith in
      sym (rw n) ∙ turn.same ∙ pass_line w sizes

-- Serves the code only; a reader of 01 can skip it.
-- Rules 9, 17, 8 and 10 in one pass over the slots of a line with what they hold. proofs/Judgements.antt shows that its verdict is
-- that of Refusals.antt.
use Rattle.std.specs.Prelude.{ℕ, suc, ◌%◌, List, [], ◌∷◌, Bool, false, ◌&&◌, ◌||◌, eqb, None}
use Rattle.bits.specs.Pick.{pick}
use Rattle.word.specs.Addresses.{quad_at}
use Rattle.slots.specs.declared.slot.Slot.{Slot}
use Rattle.sets.specs.Ranges.{no_words, overlap}
use Rattle.sets.specs.declared.range.Range.{Range}
use Rattle.line.specs.Rules.{verdict}
use Rattle.line.specs.Pass.{note, refuse_at}
use Rattle.line.specs.Verdicts.{Verdict}
use Rattle.conditional.specs.LineSlots.{live}
use Rattle.conditional.specs.declared.line_slot.Fetched.{Fetched}
use Rattle.instructions.specs.Held.{index, modifier, base, len}
use Rattle.instructions.specs.StoredWords.{range_stored}
use Rattle.refusals.specs.Refusals.{outside, misplaced, breaks9, breaks17, breaks8}
use Rattle.refusals.specs.declared.memory_use.MemoryUse.{MemoryUse}
use Rattle.refusals.specs.declared.judged.Judged.{Judged}

-- ---- one slot

-- a slot that accesses no memory
abbrev pub no_access : Bool → MemoryUse
no_access outside = record { outside = outside; aligned = false; misplaced = false; stored = no_words }

-- a load through a data alignment buffer
abbrev pub dab_use : ℕ → List ℕ → MemoryUse
dab_use size v =
    record {
      outside = outside size 4 (index v) (modifier v) (base v) (len v);
      aligned = eqb (index v % 4) 0;
      misplaced = misplaced size 4 (quad_at (index v));
      stored = no_words;
    }

-- whether it breaks 9, 17 and 8; the words that it stores. Nothing where it is not live
unfoldable pub use_of : ℕ → Slot → List ℕ → MemoryUse
use_of size x v =
    record {
      outside = live v && breaks9 size x v;
      aligned = live v && breaks17 x v;
      misplaced = live v && breaks8 size x v;
      stored = pick (live v) (range_stored x v) no_words;
    }

-- ---- the slots so far

abbrev pub none_judged : Judged
none_judged =
    record { circular = None; aligned = None; access = None; words = None; a = no_words; b = no_words; c = no_words }

-- rule 10: a word that one of the last three slots stores too
unfoldable pub stored_again : Judged → Range → Bool
stored_again j r = overlap j.a r || overlap j.b r || overlap j.c r

unfoldable pub judge : Judged → ℕ → MemoryUse → Judged
judge j s x =
    record {
      circular = note j.circular s x.outside;
      aligned = note j.aligned s x.aligned;
      access = note j.access s x.misplaced;
      words = note j.words s (stored_again j x.stored);
      a = j.b;
      b = j.c;
      c = x.stored;
    }

-- some slots more, from slot s on
unfoldable pub judge_all : ℕ → ℕ → Judged → List Fetched → Judged
judge_all size s j [] = j
judge_all size s j (x ∷ xs) = judge_all size (suc s) (judge j s (use_of size x.slot.slot x.held)) xs

-- ---- the verdict

unfoldable pub verdict_of : Judged → Verdict
verdict_of j =
    refuse_at 9 j.circular (refuse_at 17 j.aligned (refuse_at 8 j.access (refuse_at 10 j.words (verdict 0 0))))

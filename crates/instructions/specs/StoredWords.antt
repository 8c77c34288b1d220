-- Serves the code only; a reader of 01 can skip it.
-- The memory words that a slot stores, as a range. proofs/StoredWords.antt shows that they are `words_stored`.
use Rattle.std.specs.Prelude.{ℕ, List}
use Rattle.bits.specs.Pick.{pick}
use Rattle.bits.specs.Ops.{is_store}
use Rattle.word.specs.Ialu.{address}
use Rattle.slots.specs.Families.{on_access}
use Rattle.slots.specs.declared.slot.Slot.{Slot}
use Rattle.sets.specs.Ranges.{range, no_words}
use Rattle.sets.specs.declared.range.Range.{Range}
use Rattle.instructions.specs.Held.{index, modifier}

-- v: the words that it holds
unfoldable pub range_stored : Slot → List ℕ → Range
range_stored x v =
    on_access no_words (λ ialu op w file n f s i. range (address op (index v) (modifier v)) (pick (is_store op) w 0)) x

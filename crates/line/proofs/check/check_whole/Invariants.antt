use Rattle.std.proofs.Common.{◌≡◌}
use Rattle.std.specs.Slice.Iter.{chunks_exact_rest, chunks_exact_size}
use Rattle.slots.specs.Conditionals.{slot_words}
use Rattle.line.proofs.LineVerdicts.{Turn}
use Rattle.line.proofs.check.check_whole.Given as goal

abbrev pub invariant-loop-words : goal.invariant-loop-words
invariant-loop-words l =
    record {
      size : chunks_exact_size l.words-iterator ≡ slot_words;
      turn : Turn l.line l.seen (chunks_exact_rest l.words-iterator);
    }

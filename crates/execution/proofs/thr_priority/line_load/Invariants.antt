use mathlib.Core.Path.{◌≡◌}
use Rattle.std.specs.Slice.Iter.{chunks_exact_rest, chunks_exact_size}
use Rattle.slots.specs.Conditionals.{slot_words}
use Rattle.slots.specs.Stores.{load_of}
use Rattle.execution.specs.PlainLine.{line_of}
use Rattle.execution.proofs.LineSlots.{Readable}
use Rattle.execution.proofs.thr_priority.line_load.Given as goal

-- no slot so far loads the pair
abbrev pub invariant-loop-words : goal.invariant-loop-words
invariant-loop-words l =
    let left = chunks_exact_rest l.words-iterator in
    record {
      size : chunks_exact_size l.words-iterator ≡ slot_words;
      good : Readable left;
      same : load_of l.block l.p (line_of left) ≡ load_of l.block l.p (line_of l.line);
    }

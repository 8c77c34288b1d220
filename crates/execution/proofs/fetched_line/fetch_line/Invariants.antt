use mathlib.Core.Path.{◌≡◌}
use Rattle.std.specs.Slice.Iter.{chunks_exact_rest, chunks_exact_size}
use Rattle.std.specs.Iterator.Adapters.{enumerate_source, enumerate_count}
use Rattle.slots.specs.Conditionals.{slot_words}
use Rattle.layout.specs.Layout.{machine_of}
use Rattle.execution.proofs.FetchedLines.{Turn}
use Rattle.execution.proofs.fetched_line.fetch_line.Given as goal

abbrev pub invariant-loop-s : goal.invariant-loop-s
invariant-loop-s l =
    record {
      size : chunks_exact_size (enumerate_source l.s-iterator) ≡ slot_words;
      turn :
          Turn l.line (machine_of l.files l.memory) l.initial.fetched (enumerate_count l.s-iterator) l.fetched l.judged
          (chunks_exact_rest (enumerate_source l.s-iterator));
    }

use Rattle.std.proofs.Common.{◌≡◌, ℕ, ◌+◌, ◌<◌, List, length, get_or}
use Rattle.slots.specs.Places.{place}
use Rattle.machine.specs.Machine.{get}
use Rattle.layout.specs.Layout.{file_is, machine_of}
use Rattle.layout.proofs.span.get.Given as goal

-- the words before k are those of the places
abbrev pub invariant-loop-k : goal.invariant-loop-k
invariant-loop-k g l = record {
  long : length l.words ≡ g.row.N;
  each : (mem : List ℕ) (j : ℕ) → j < l.k → get_or l.words j 0 ≡ get (machine_of l.files mem) (place (file_is l.file) (l.i + j));
}

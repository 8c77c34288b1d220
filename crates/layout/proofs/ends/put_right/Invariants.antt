use Rattle.std.proofs.Common.{◌≡◌, ℕ, List, length}
use Rattle.layout.specs.Layout.{state_words, machine_of}
use Rattle.layout.proofs.EndWords.{renew_first}
use Rattle.layout.proofs.ends.put_right.Given as goal

abbrev pub invariant-loop-i : goal.invariant-loop-i
invariant-loop-i l =
    record {
      whole : length l.files ≡ state_words;
      renewed : (mem : List ℕ) → machine_of l.files mem ≡ renew_first l.i (machine_of l.initial.files mem);
    }

use Rattle.std.proofs.Common.{◌≡◌, ◌*◌, length, take}
use Rattle.layout.specs.Layout.{words_of_ends}
use Rattle.states.proofs.words.split_ends.Given as goal

abbrev pub invariant-loop-i : goal.invariant-loop-i
invariant-loop-i l =
    record { words_kept : length l.words ≡ 16; same : take (2 * l.i) l.words ≡ take (2 * l.i) (words_of_ends l.end-items) }

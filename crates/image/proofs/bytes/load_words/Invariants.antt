use mathlib.Core.Path.{◌≡◌}
use Rattle.image.proofs.LittleEndian.{partly}
use Rattle.image.proofs.bytes.load_words.Given as goal

abbrev pub invariant-loop-i : goal.invariant-loop-i
invariant-loop-i l = l.words ≡ partly l.bytes l.initial.words l.i

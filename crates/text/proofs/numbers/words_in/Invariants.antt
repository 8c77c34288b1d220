use Rattle.std.proofs.Common.{◌≡◌}
use Rattle.std.specs.List.{fold}
use Rattle.text.specs.Parts.{left}
use Rattle.text.specs.Numbers.{read, taken, words_in}
use Rattle.text.proofs.numbers.words_in.Given as goal

abbrev pub invariant-loop-token : goal.invariant-loop-token
invariant-loop-token l = words_in l.text ≡ fold taken (read l.good l.words.items) (left l.token-iterator)

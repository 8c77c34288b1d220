use Rattle.std.proofs.Common.{refl}
use Rattle.text.specs.Numbers.{words_in}
use Rattle.text.proofs.numbers.words_in.Goals as goal

pub loop-token-init : goal.loop-token-init
unfolding words_in
loop-token-init c = rw (c.new-words.ensures, c.into_iter-token-iterator.ensures.into_iter_gives, c.split-token-items.ensures) refl

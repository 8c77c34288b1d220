use Rattle.bits.specs.Flags.{flag_word}
use Rattle.bits.proofs.flags.flag_word.Goals as goal

pub returns : goal.returns
unfolding flag_word
returns c = cc

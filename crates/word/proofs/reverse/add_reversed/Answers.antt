use Rattle.word.specs.Addresses.{add_reversed}
use Rattle.word.proofs.reverse.add_reversed.Goals as goal

pub returns : goal.returns
unfolding add_reversed
returns c = cc

use Rattle.bits.specs.Flags.{clu_flags}
use Rattle.bits.proofs.flags.clu_flags.Goals as goal

pub returns : goal.returns
unfolding clu_flags
returns c = cc

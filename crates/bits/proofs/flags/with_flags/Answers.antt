use Rattle.bits.specs.Flags.{outcome}
use Rattle.bits.proofs.flags.with_flags.Goals as goal

pub returns : goal.returns
unfolding outcome
returns c = cc

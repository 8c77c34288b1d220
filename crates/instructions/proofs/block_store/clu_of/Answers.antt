use Rattle.instructions.specs.Storing.{clu_of}
use Rattle.instructions.proofs.block_store.clu_of.Goals as goal

pub returns : goal.returns
unfolding clu_of
returns c = c.clu.ensures

use Rattle.word.specs.Ialu.{address}
use Rattle.word.proofs.ialu.address.Goals as goal

pub returns : goal.returns
unfolding address
returns c = rw c.select.ensures

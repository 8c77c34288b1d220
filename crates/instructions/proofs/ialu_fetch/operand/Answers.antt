use Rattle.slots.proofs.Picks.{picks}
use Rattle.instructions.specs.Operands.{operand}
use Rattle.instructions.proofs.ialu_fetch.operand.Goals as goal

pub returns-then-second-eq32 : goal.returns-then-second-eq32
unfolding operand
returns-then-second-eq32 c = λ mem. search picks

pub returns-then-used : goal.returns-then-used
unfolding operand
returns-then-used c = λ mem. rw (c.register.ensures mem) (search picks)

pub returns : goal.returns
unfolding operand
returns c = λ mem. search picks

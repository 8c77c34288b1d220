use Rattle.instructions.specs.Operands.{register}
use Rattle.instructions.proofs.ialu_fetch.register.Goals as goal

pub returns : goal.returns
unfolding register
returns c = λ mem. rw (c.read_if.ensures mem, c.after.ensures.0, c.ialu_file.ensures)

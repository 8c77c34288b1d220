use Rattle.machine.specs.Fetches.{assign, puts}
use Rattle.instructions.specs.Storing.{store_buffer}
use Rattle.instructions.proofs.ialu_store.store_buffer.Goals as goal

pub returns : goal.returns
unfolding store_buffer assign puts
returns c = λ mem. rw (c.write.ensures mem, c.in_four.ensures.0, c.buffer_file.ensures)

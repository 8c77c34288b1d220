use Rattle.layout.proofs.Laid.{memory_stored, memory_kept}
use Rattle.layout.proofs.cell.save.Goals as goal

pub returns-then-i-memory : goal.returns-then-i-memory
returns-then-i-memory c = λ ws. memory_stored ws c.args.memory.now c.args.i c.args.v

pub returns-else-i-memory : goal.returns-else-i-memory
returns-else-i-memory c = λ ws. memory_kept ws c.args.memory.now c.args.i c.args.v c.if-i-memory.false

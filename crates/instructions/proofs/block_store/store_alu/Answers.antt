use Rattle.machine.specs.Fetches.{assign, puts}
use Rattle.instructions.specs.Storing.{store_alu}
use Rattle.instructions.proofs.block_store.store_alu.Goals as goal

pub returns : goal.returns
unfolding store_alu assign puts
returns c = λ mem. rw (c.write-2.ensures mem, c.flag_group.ensures, c.write.ensures mem, c.in_block.ensures.0)
    (rw c.alu-o.ensures)

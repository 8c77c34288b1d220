use Rattle.machine.specs.Fetches.{assign, puts}
use Rattle.machine.proofs.Spans.{puts_append}
use Rattle.instructions.specs.Storing.{store_trellis}
use Rattle.instructions.proofs.block_store.store_trellis.Goals as goal

pub returns : goal.returns
unfolding store_trellis assign puts
returns c = λ mem. rw (puts_append)
    (rw (c.write.ensures mem, c.flag_group.ensures, c.put.ensures mem, c.in_block-at.ensures.0)
    (rw c.clu_of-o.ensures))

use Rattle.machine.specs.Fetches.{assign, puts}
use Rattle.machine.proofs.Spans.{puts_append}
use Rattle.instructions.specs.Storing.{store_transfer}
use Rattle.instructions.proofs.block_store.store_transfer.Goals as goal

pub returns : goal.returns
unfolding store_transfer assign puts
returns c = λ mem. rw (puts_append, puts_append)
    (rw (c.put-3.ensures mem, c.in_four-at.ensures.0, c.select-n-3.ensures, c.put-2.ensures mem)
    (rw (c.in_block-at-2.ensures.0, c.select-n-2.ensures, c.put.ensures mem, c.in_block-at.ensures.0)
    (rw c.select-n.ensures)))

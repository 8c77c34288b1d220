use Rattle.machine.specs.Fetches.{values}
use Rattle.machine.proofs.Fetches.{gets, values_asks}
use Rattle.instructions.proofs.Fetched.{next_of_block}
use Rattle.machine.proofs.Spans.{when_get}
use Rattle.instructions.specs.Fetching.{fetch_transfer}
use Rattle.instructions.proofs.block_fetch.fetch_transfer.Goals as goal

pub returns : goal.returns
unfolding fetch_transfer values gets
returns c = λ mem. rw c.hold.ensures (simp (values_asks, when_get, next_of_block)
    (rw (c.read_if-y.ensures mem, c.in_block-3.ensures.0, c.read_if-x2.ensures mem, c.in_block-2.ensures.0)
    (rw (c.read_if-x.ensures mem, c.in_block.ensures.0))))

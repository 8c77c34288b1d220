use Rattle.machine.specs.Fetches.{values}
use Rattle.machine.proofs.Fetches.{gets, values_asks}
use Rattle.machine.proofs.Spans.{when_get}
use Rattle.instructions.specs.Fetching.{fetch_shifter}
use Rattle.instructions.proofs.block_fetch.fetch_shifter.Goals as goal

pub returns : goal.returns
unfolding fetch_shifter values gets
returns c = λ mem. rw c.hold.ensures (simp (values_asks, when_get)
    (rw (c.read_if-y.ensures mem, c.in_block-2.ensures.0, c.read-x.ensures mem, c.in_block.ensures.0)))

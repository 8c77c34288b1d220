use Rattle.machine.specs.Fetches.{values}
use Rattle.machine.proofs.Fetches.{gets, values_asks}
use Rattle.instructions.specs.Fetching.{fetch_trellis}
use Rattle.instructions.proofs.block_fetch.fetch_trellis.Goals as goal

pub returns : goal.returns
unfolding fetch_trellis values gets
returns c = λ mem. rw c.hold.ensures (simp values_asks
    (rw (c.read-old.ensures mem, c.flag_group.ensures, c.get-3.ensures mem, c.in_block-3.ensures.0)
    (rw (c.get-2.ensures mem, c.in_block-2.ensures.0, c.get.ensures mem, c.in_block.ensures.0))))

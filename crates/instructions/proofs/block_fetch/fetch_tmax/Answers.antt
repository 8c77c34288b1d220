use Rattle.machine.specs.Fetches.{values}
use Rattle.machine.proofs.Fetches.{gets, values_asks}
use Rattle.instructions.specs.Fetching.{fetch_tmax}
use Rattle.instructions.proofs.block_fetch.fetch_tmax.Goals as goal

pub returns : goal.returns
unfolding fetch_tmax values gets
returns c = λ mem. rw c.hold.ensures (simp values_asks
    (rw (c.read-old.ensures mem, c.flag_group.ensures, c.read-y.ensures mem, c.in_block-2.ensures.0)
    (rw (c.read-x.ensures mem, c.in_block.ensures.0))))

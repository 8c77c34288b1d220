use Rattle.std.proofs.Common.{refl}
use Rattle.published.specs.Tally.{tally_of}
use Rattle.published.proofs.tally.run_table.Goals as goal

pub loop-row-init : goal.loop-row-init
unfolding tally_of
loop-row-init g c = rw (c.into_iter-row-iterator.ensures.into_iter_gives, c.split-row-items.ensures) refl

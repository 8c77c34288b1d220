use Rattle.slots.proofs.Picks.{picks}
use Rattle.replay.specs.Record.{counted}
use Rattle.replay.proofs.record.counted.Goals as goal

pub returns-then-check-ne3 : goal.returns-then-check-ne3
unfolding counted
returns-then-check-ne3 c = search picks

pub returns-then-plain-ne5 : goal.returns-then-plain-ne5
unfolding counted
returns-then-plain-ne5 c = search picks

pub returns-then-ordered-ne5 : goal.returns-then-ordered-ne5
unfolding counted
returns-then-ordered-ne5 c = search picks

pub returns : goal.returns
unfolding counted
returns c = search picks

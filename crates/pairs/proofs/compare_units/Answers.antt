use Rattle.pairs.proofs.PairWalk.{slots_first, slots_done, pairs_first, pair_found, pairs_next, slots_next}
use Rattle.pairs.proofs.compare_units.Goals as goal

pub loop-later-init : goal.loop-later-init
loop-later-init c = slots_first _ c.requires

pub loop-earlier-init : goal.loop-earlier-init
loop-earlier-init c = pairs_first _ c.requires c.loop-later.invariant c.loop-later-test.true

pub returns-then-line-earlier : goal.returns-then-line-earlier
returns-then-line-earlier c = pair_found _ c.requires c.loop-earlier.invariant c.loop-earlier-test.true c.if-line-earlier.true

pub loop-earlier-preserved : goal.loop-earlier-preserved
loop-earlier-preserved c = pairs_next _ c.requires c.loop-earlier.invariant c.loop-earlier-test.true c.if-line-earlier.false

pub loop-later-preserved : goal.loop-later-preserved
loop-later-preserved c =
    slots_next _ c.requires c.loop-earlier.invariant c.loop-later-test.true c.loop-earlier-test.false
    c.loop-earlier.auto.earlier-end

pub returns : goal.returns
returns c = slots_done _ c.requires c.loop-later.invariant c.loop-later-test.false

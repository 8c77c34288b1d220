use Rattle.std.proofs.Common.{eq-eqb, ne_eqb}
use Rattle.word.specs.Ialu.{updated}
use Rattle.word.proofs.ialu.updated.Goals as goal

pub returns-then-op : goal.returns-then-op
unfolding updated
returns-then-op c = rw c.if-op.true

pub returns-then-op-2 : goal.returns-then-op-2
unfolding updated
returns-then-op-2 c = rw (c.if-op.false, c.if-op-2.true, c.circular.ensures)

pub returns-then-op-eq23 : goal.returns-then-op-eq23
unfolding updated
returns-then-op-eq23 c = rw (c.if-op.false, c.if-op-2.false, eq-eqb _ _ c.if-op-eq23.true)
    c.add_reversed.ensures

pub returns : goal.returns
unfolding updated
returns c = rw (c.if-op.false, c.if-op-2.false, ne_eqb _ _ c.if-op-eq23.false)

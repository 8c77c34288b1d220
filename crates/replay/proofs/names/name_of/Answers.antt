use native.Mathlib.Omega.{arith}
use mathlib.Core.Path.{sym, ◌∙◌}
use Rattle.replay.specs.Names.{places}
use Rattle.replay.proofs.Named.{in_row, past_row, past_rows}
use Rattle.replay.proofs.names.name_of.Goals as goal

pub returns-then-place-places : goal.returns-then-place-places
returns-then-place-places c =
    let l = c.loop-row in
    in_row places l.row l.place (omega arith) c.if-place-places.true ∙ sym l.invariant

pub loop-row-preserved : goal.loop-row-preserved
loop-row-preserved c =
    let l = c.loop-row in
    l.invariant ∙ past_row places l.row l.place (omega arith) c.if-place-places.false

pub returns : goal.returns
returns c =
    let l = c.loop-row in
    past_rows places l.row l.place _ (omega arith) (omega arith) ∙ sym l.invariant

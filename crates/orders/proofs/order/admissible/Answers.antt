use mathlib.Core.Path.{sym, ◌∙◌}
use Rattle.orders.proofs.OrderTests.{not_once, not_unused, in_sequence_lem}
use Rattle.orders.proofs.order.admissible.Goals.{then-all_stand, else-all_stand}
use Rattle.orders.proofs.order.admissible.Goals as goal

pub returns-then-unused : goal.returns-then-unused
returns-then-unused c =
    elim c.if-all_stand.branch [
      | then-all_stand w ↦
          in_sequence_lem c.args.order.now c.args.slots.now c.requires c.min-end.ensures _ c.positions-at.ensures
          c.all_stand.ensures w.if-all_stand.true w.unused.ensures (sym w.value-is ∙ c.if-unused.true) c.in_sequence.ensures
      | else-all_stand w ↦ (cc)
    ]

pub returns-else-unused : goal.returns-else-unused
returns-else-unused c =
    c.if-unused.false
    ∙ elim c.if-all_stand.branch [
      | then-all_stand w ↦
          not_unused c.args.order.now c.args.slots.now c.requires c.min-end.ensures _ c.positions-at.ensures
          c.all_stand.ensures w.if-all_stand.true w.unused.ensures (sym w.value-is ∙ c.if-unused.false)
      | else-all_stand w ↦
          not_once c.args.order.now c.args.slots.now c.requires c.min-end.ensures _ c.positions-at.ensures
          c.all_stand.ensures w.if-all_stand.false
    ]

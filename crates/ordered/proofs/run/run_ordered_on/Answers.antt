use mathlib.Core.Path.{◌∙◌}
use native.Mathlib.Omega.{arith}
use Rattle.layout.specs.Layout.{machine_of}
use Rattle.runs.proofs.WholeRun.{refused_before, goes_on, check_passed}
use Rattle.ordered.specs.Ordered.{ordered_run_on}
use Rattle.ordered.proofs.WholeOrdered.{orders_refused, orders_counted}
use Rattle.ordered.proofs.run.run_ordered_on.Goals as goal

pub returns-in-Err : goal.returns-in-Err
unfolding ordered_run_on machine_of
returns-in-Err c =
    let a = c.args in
    refused_before a.image.now (machine_of a.files.now a.memory.now) c.before_lines.ensures _ c.in-Err.is

pub returns-then-orders-line_count : goal.returns-then-orders-line_count
unfolding ordered_run_on machine_of
returns-then-orders-line_count c =
    let a = c.args in
    let m = machine_of a.files.now a.memory.now in
    rw c.stopped.ensures
    (orders_refused a.image.now a.orders.now a.limit c.line_count.ensures m c.if-orders-line_count.true
    ∙ goes_on a.image.now m c.before_lines.ensures c.in_default.is _)

pub ordered_lines-requires : goal.ordered_lines-requires
unfolding machine_of
ordered_lines-requires c =
    let a = c.args in (
      check_passed a.image.now (machine_of a.files.now a.memory.now) c.before_lines.ensures
          c.in_default.is,
      omega (arith, c.if-orders-line_count.false, c.line_count.ensures),
      c.requires,
    )

pub returns : goal.returns
unfolding ordered_run_on machine_of
returns c =
    let a = c.args in
    let m = machine_of a.files.now a.memory.now in
    c.ordered_lines.ensures
    ∙ orders_counted a.image.now a.orders.now a.limit c.line_count.ensures m c.if-orders-line_count.false
    ∙ goes_on a.image.now m c.before_lines.ensures c.in_default.is _

use mathlib.Core.Path.{◌≡◌, refl, sym, ◌∙◌}
use native.Mathlib.Nat.{sub-zero}
use native.Mathlib.Omega.{arith}
use Rattle.image.specs.Directory.{line_count}
use Rattle.image.proofs.AcceptedImage.{line_there}
use Rattle.layout.proofs.EndWords.{true_laid, laid_true}
use Rattle.stepping.proofs.EndsKept.{ordered_true}
use Rattle.runs.proofs.Walked.{few_steps, line_passed}
use Rattle.ordered.proofs.OrderedWalk.{no_line_left, limit_spent, order_refused, stopped_inside, line_stepped}
use Rattle.ordered.proofs.run.ordered_lines.Goals as goal

pub loop-lines-init : goal.loop-lines-init
loop-lines-init c =
    let n = c.line_count-n.ensures in
    (n, omega arith, refl, rw (n, sub-zero (line_count c.args.image.now)), c.requires.2)

pub shape_of-memory-then-limit-steps : goal.shape_of-memory-then-limit-steps
shape_of-memory-then-limit-steps c = c.loop-lines.invariant.2

pub returns-then-limit-steps : goal.returns-then-limit-steps
returns-then-limit-steps c =
    let loop = c.loop-lines in
    rw c.stopped.ensures
    (limit_spent c.args.limit c.args.image.now c.args.orders.now loop.lines _ loop.steps _
    c.loop-lines-test.true c.if-limit-steps.true
    ∙ sym loop.invariant.3)

pub line_at-line-requires : goal.line_at-line-requires
line_at-line-requires c =
    let loop = c.loop-lines in
    line_there c.args.image.now loop.lines c.requires.0 loop.invariant.0 c.loop-lines-test.true

pub slice_bounds-order-end : goal.slice_bounds-order-end
slice_bounds-order-end c = omega (arith, c.requires.1, c.loop-lines.invariant.0)

pub ordered_line-requires : goal.ordered_line-requires
ordered_line-requires c =
    let loop = c.loop-lines in (
      line_passed c.args.image.now loop.lines _ c.requires.0 loop.invariant.0 c.loop-lines-test.true
          c.line_at-line.ensures,
      loop.invariant.4,
    )

pub shape_of-memory-in-Err : goal.shape_of-memory-in-Err
shape_of-memory-in-Err c =
    c.ordered_line.auto.memory ∙ c.loop-lines.invariant.2

pub returns-in-Err : goal.returns-in-Err
returns-in-Err c =
    let loop = c.loop-lines in
    rw (c.stopped-in-Err.ensures, c.code.ensures)
    (order_refused c.args.limit c.args.image.now c.args.orders.now loop.lines _ loop.steps _
    c.loop-lines-test.true c.requires.0 loop.invariant.0 c.requires.1 c.if-limit-steps.false c.line_at-line.ensures
    _ c.ordered_line.ensures.1 _ c.ordered_line.ensures.0 c.in-Err.is
    ∙ sym loop.invariant.3)

pub shape_of-memory-then-left-all : goal.shape_of-memory-then-left-all
shape_of-memory-then-left-all c =
    c.ordered_line.auto.memory ∙ c.loop-lines.invariant.2

pub returns-then-left-all : goal.returns-then-left-all
returns-then-left-all c =
    let loop = c.loop-lines in
    rw c.stopped-then-left-all.ensures
    (stopped_inside c.args.limit c.args.image.now c.args.orders.now loop.lines _ loop.steps _
    c.loop-lines-test.true c.requires.0 loop.invariant.0 c.requires.1 c.if-limit-steps.false c.line_at-line.ensures
    _ c.ordered_line.ensures.1 _ c.ordered_line.ensures.0 c.in_default.is c.if-left-all.true
    ∙ sym loop.invariant.3)

pub overflow_add-steps : goal.overflow_add-steps
overflow_add-steps c =
    let loop = c.loop-lines in
    let few = few_steps c.args.image.now loop.lines _ c.requires.0 loop.invariant.0 c.loop-lines-test.true
    c.line_at-line.ensures in
    omega (arith, few, loop.invariant.1)

pub loop-lines-preserved : goal.loop-lines-preserved
loop-lines-preserved c =
    let loop = c.loop-lines in
    let few = few_steps c.args.image.now loop.lines _ c.requires.0 loop.invariant.0 c.loop-lines-test.true
    c.line_at-line.ensures in (
      loop.invariant.0,
      omega (arith, few, loop.invariant.1),
      c.ordered_line.auto.memory ∙ loop.invariant.2,
      loop.invariant.3
          ∙ line_stepped c.args.limit c.args.image.now c.args.orders.now loop.lines _
          loop.steps _ c.loop-lines-test.true c.requires.0 loop.invariant.0 c.requires.1 c.if-limit-steps.false
          c.line_at-line.ensures _ c.ordered_line.ensures.1 _ c.ordered_line.ensures.0 c.in_default.is
          c.if-left-all.false,
      true_laid _ _ _ c.ordered_line.ensures.1
          (ordered_true _ _ _ _ (laid_true loop.files loop.memory loop.invariant.4)),
    )

pub shape_of-memory : goal.shape_of-memory
shape_of-memory c = c.loop-lines.invariant.2

pub returns : goal.returns
returns c =
    let loop = c.loop-lines in
    let all : c.line_count-n.result ≡ loop.lines = omega arith in
    rw (c.stopped-2.ensures, all)
    (no_line_left c.args.limit c.args.image.now c.args.orders.now loop.lines _ loop.steps _
    c.loop-lines-test.false
    ∙ sym loop.invariant.3)

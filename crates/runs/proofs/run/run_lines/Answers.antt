use mathlib.Core.Path.{◌≡◌, refl, sym, ◌∙◌}
use native.Mathlib.Nat.{sub-zero}
use native.Mathlib.Omega.{arith}
use Rattle.image.specs.Directory.{line_count}
use Rattle.image.proofs.AcceptedImage.{line_there}
use Rattle.layout.proofs.EndWords.{true_laid, laid_true}
use Rattle.execution.proofs.EndsKept.{line_true}
use Rattle.runs.proofs.Walked.{run_end, few_steps, line_passed, line_refused, line_ran}
use Rattle.runs.proofs.run.run_lines.Goals as goal

pub loop-lines-init : goal.loop-lines-init
loop-lines-init c =
    let n = c.line_count-n.ensures in
    (n, omega arith, refl, rw (n, sub-zero (line_count c.args.image.now)), c.requires.1)

pub line_at-line-requires : goal.line_at-line-requires
line_at-line-requires c =
    let loop = c.loop-lines in
    line_there c.args.image.now loop.lines c.requires.0 loop.invariant.0 (omega arith)

pub run_line-requires : goal.run_line-requires
run_line-requires c =
    let loop = c.loop-lines in (
      line_passed c.args.image.now loop.lines _ c.requires.0 loop.invariant.0 (omega arith)
          c.line_at-line.ensures,
      loop.invariant.4,
    )

pub returns-in-Err : goal.returns-in-Err
returns-in-Err c =
    let loop = c.loop-lines in
    rw (c.stopped.ensures, c.code.ensures)
    (line_refused c.args.image.now loop.lines _ c.requires.0 loop.invariant.0 (omega arith)
    c.line_at-line.ensures loop.steps _ _ c.run_line.ensures.1 _ c.run_line.ensures.0 c.in-Err.is
    ∙ sym loop.invariant.3)

pub overflow_add-steps : goal.overflow_add-steps
overflow_add-steps c =
    let loop = c.loop-lines in omega (arith, few_steps c.args.image.now loop.lines _ c.requires.0 loop.invariant.0 (omega arith) c.line_at-line.ensures, loop.invariant.1)

pub loop-lines-preserved : goal.loop-lines-preserved
loop-lines-preserved c =
    let loop = c.loop-lines in (
      loop.invariant.0,
      omega (arith, few_steps c.args.image.now loop.lines _ c.requires.0 loop.invariant.0 (omega arith) c.line_at-line.ensures, loop.invariant.1),
      c.run_line.auto.memory ∙ loop.invariant.2,
      loop.invariant.3
          ∙ line_ran c.args.image.now loop.lines _ c.requires.0 loop.invariant.0 (omega arith)
          c.line_at-line.ensures loop.steps _ _ c.run_line.ensures.1 _ c.run_line.ensures.0 c.in_default.is,
      true_laid _ _ _ c.run_line.ensures.1 (line_true _ _ (laid_true loop.files loop.memory loop.invariant.4)),
    )

pub shape_of-memory : goal.shape_of-memory
shape_of-memory c = c.loop-lines.invariant.2

pub returns : goal.returns
returns c =
    let loop = c.loop-lines in
    let all : c.line_count-n.result ≡ loop.lines = omega arith in
    rw (c.stopped-2.ensures, all)
    (run_end c.args.image.now loop.lines _ loop.steps _ c.loop-lines-test.false ∙ sym loop.invariant.3)

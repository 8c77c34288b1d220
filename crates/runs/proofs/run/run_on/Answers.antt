use mathlib.Core.Path.{◌∙◌}
use Rattle.layout.specs.Layout.{machine_of}
use Rattle.runs.specs.Plain.{plain_run_on}
use Rattle.runs.proofs.WholeRun.{refused_before, goes_on, check_passed}
use Rattle.runs.proofs.run.run_on.Goals as goal

pub returns-in-Err : goal.returns-in-Err
unfolding plain_run_on machine_of
returns-in-Err c =
    let a = c.args in
    refused_before a.image.now (machine_of a.files.now a.memory.now) c.before_lines.ensures _ c.in-Err.is

pub run_lines-requires : goal.run_lines-requires
unfolding machine_of
run_lines-requires c =
    let a = c.args in (
      check_passed a.image.now (machine_of a.files.now a.memory.now) c.before_lines.ensures c.in_default.is,
      c.requires,
    )

pub returns : goal.returns
unfolding plain_run_on machine_of
returns c =
    let a = c.args in
    c.run_lines.ensures
    ∙ goes_on a.image.now (machine_of a.files.now a.memory.now) c.before_lines.ensures c.in_default.is _

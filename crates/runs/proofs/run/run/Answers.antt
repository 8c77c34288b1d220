use Rattle.runs.specs.Plain.{plain_run}
use Rattle.runs.proofs.WholeRun.{laid_run}
use Rattle.runs.proofs.run.run.Goals as goal

pub returns : goal.returns
returns c =
    let a = c.args in
    laid_run (plain_run a.image.now) a.state c.words_of-files.result a.memory.now _ _
    (c.words_of-files.ensures.1 a.memory.now) c.run_files-report.ensures c.gathered-after.ensures

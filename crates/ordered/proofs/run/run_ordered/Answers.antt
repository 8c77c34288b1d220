use Rattle.runs.proofs.WholeRun.{laid_run}
use Rattle.ordered.specs.Ordered.{ordered_run}
use Rattle.ordered.proofs.run.run_ordered.Goals as goal

pub returns : goal.returns
returns c =
    let a = c.args in
    laid_run (ordered_run a.image.now a.orders.now a.limit) a.state c.words_of-files.result a.memory.now _ _
    (c.words_of-files.ensures.1 a.memory.now) c.run_ordered_files-report.ensures c.gathered-after.ensures

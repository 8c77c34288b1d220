use mathlib.Core.Path.{ap, ◌∙◌}
use mathlib.Core.List.{[]}
use Rattle.machine.proofs.Ends.{right_true}
use Rattle.layout.proofs.EndWords.{true_laid}
use Rattle.runs.specs.Plain.{plain_run, plain_run_on}
use Rattle.runs.proofs.run.run_files.Goals as goal

pub run_on-requires : goal.run_on-requires
run_on-requires c = true_laid _ [] _ (c.put_right.ensures []) (right_true _)

pub returns : goal.returns
unfolding plain_run
returns c =
    let a = c.args in
    c.run_on.ensures ∙ ap (plain_run_on a.image.now) (c.put_right.ensures a.memory.now)

use mathlib.Core.Path.{ap, ◌∙◌}
use mathlib.Core.List.{[]}
use Rattle.machine.proofs.Ends.{right_true}
use Rattle.layout.proofs.EndWords.{true_laid}
use Rattle.ordered.specs.Ordered.{ordered_run, ordered_run_on}
use Rattle.ordered.proofs.run.run_ordered_files.Goals as goal

pub run_ordered_on-requires : goal.run_ordered_on-requires
run_ordered_on-requires c = true_laid _ [] _ (c.put_right.ensures []) (right_true _)

pub returns : goal.returns
unfolding ordered_run
returns c =
    let a = c.args in
    c.run_ordered_on.ensures
    ∙ ap (ordered_run_on a.image.now a.orders.now a.limit) (c.put_right.ensures a.memory.now)

use Rattle.std.proofs.Common.{ℕ, ap, ◌∙◌}
use Rattle.debugger.specs.FlatRuns.{flat_condition}
use Rattle.published.specs.Calls.{with_answer, asked}
use Rattle.published.proofs.calls.asked.Goals as goal

pub returns : goal.returns
unfolding asked
returns c =
    let b = c.args.board in
    ap (with_answer b) (c.ts201_condition.ensures ∙ ap (λ (n : ℕ). flat_condition n b.files) c.number_given.ensures)

use Rattle.std.proofs.Common.{ap, ◌∙◌}
use Rattle.text.specs.Parts.{after}
use Rattle.published.proofs.row.field.Goals as goal

pub returns : goal.returns
returns c = c.after.ensures ∙ ap (after 32)
    c.part.ensures

use Rattle.std.proofs.Common.{refl, ◌∙◌}
use Rattle.published.specs.Row.{board_of}
use Rattle.published.proofs.row.board_of.Goals as goal

pub returns : goal.returns
unfolding board_of
returns c =
    c.perform.ensures ∙ rw (
      c.field-2.ensures,
      c.field-3.ensures,
      c.preset_all-board.ensures,
      c.field.ensures,
    ) refl

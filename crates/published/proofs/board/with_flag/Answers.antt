use Rattle.std.proofs.Common.{refl, ◌∙◌}
use Rattle.published.specs.Board.{with_flag}
use Rattle.published.proofs.board.with_flag.Goals as goal

pub returns : goal.returns
unfolding with_flag
returns c =
    c.flag_word.ensures ∙ rw (
      c.chosen.ensures,
      c.chosen-2.ensures,
      c.chosen-3.ensures,
      c.chosen-4.ensures,
    ) refl

use Rattle.std.proofs.Common.{refl, ◌∙◌, rules}
use Rattle.std.proofs.lemmas.Iterator.Consumers.{YieldsList-from_first, fold_from_yields_List}
use Rattle.text.specs.Parts.{left, split}
use Rattle.published.specs.Row.{preset, presets}
use Rattle.published.proofs.row.preset_all.Goals as goal

pub returns : goal.returns
unfolding presets
returns c =
    let a = c.args in
    let r = fold_from_yields_List _ preset _ _ c.fold.ensures.ran (YieldsList-from_first (λ x. x.now) left (split 32 a.text.now) c.split.ensures) (λ s x b q k. search rules) in
    r ∙ rw c.zero_board.ensures refl

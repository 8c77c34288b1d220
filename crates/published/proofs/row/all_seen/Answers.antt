use Rattle.std.proofs.Common.{sym, ◌∙◌, rules}
use Rattle.std.proofs.lemmas.Iterator.Search.{all_from_yields_List}
use Rattle.std.proofs.lemmas.Iterator.Consumers.{YieldsList-from_first}
use Rattle.text.specs.Parts.{left, split}
use Rattle.published.specs.Row.{sight_of, is_same, all_seen}
use Rattle.published.proofs.row.all_seen.Goals as goal

pub returns-then-expects : goal.returns-then-expects
unfolding all_seen
returns-then-expects c =
    let a = c.args in
    let r = all_from_yields_List (λ token. is_same (sight_of a.board token)) c.all.new.self _ _ c.all.ensures.ran (YieldsList-from_first (λ x. x.now) left (split 32 a.text.now) c.split.ensures) (λ x b q k. search rules) in
    rw (sym c.expects.ensures ∙ c.if-expects.true) r

pub returns-else-expects : goal.returns-else-expects
unfolding all_seen
returns-else-expects c = rw (sym c.expects.ensures ∙ c.if-expects.false) c.if-expects.false

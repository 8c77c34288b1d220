use Rattle.std.proofs.Common.{◌==◌, length, sym, ap, ◌∙◌, rules, tests}
use Rattle.std.specs.List.{list_all}
use Rattle.std.proofs.lemmas.Iterator.{YieldsList-from_slice}
use Rattle.std.proofs.lemmas.Iterator.Search.{all_from_yields_List}
use Rattle.text.proofs.Lists.{tail}
use Rattle.text.proofs.tables.named.Goals as goal

pub returns-then-starts_with : goal.returns-then-starts_with
returns-then-starts_with c =
    let a = c.args in
    let r = all_from_yields_List (λ c. c == 32) _ _ _ c.all.ensures.ran (YieldsList-from_slice _ c.iter.ensures.rest) (λ x b q k. search (rules, tests)) in
    rw (sym c.starts_with.ensures.value ∙ c.if-starts_with.true) (r ∙ ap (list_all (λ c. c == 32)) (tail a.entry.now (length a.word.now)))

use Rattle.std.proofs.Common.{rules, tests}
use Rattle.std.proofs.lemmas.Iterator.{YieldsList-from_slice}
use Rattle.std.proofs.lemmas.Iterator.Search.{position_from_yields_List}
use Rattle.text.proofs.Scans.{sought, first_found}
use Rattle.text.proofs.parts.find_between.Goals as goal

pub returns : goal.returns
returns c =
    let a = c.args in
    let p = position_from_yields_List (sought a.low a.high) _ _ _ c.position.ensures.ran (YieldsList-from_slice a.text.now cc) (λ x b q k. search (rules, tests)) in
    first_found a.low a.high a.text.now _ _ p c.unwrap_or.ensures

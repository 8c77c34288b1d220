use Rattle.std.proofs.Common.{nat_lt, rules, tests, le-leb}
use Rattle.std.proofs.lemmas.Iterator.{YieldsList-from_slice}
use Rattle.std.proofs.lemmas.Iterator.Search.{all_from_yields_List}
use Rattle.published.proofs.calls.takes.Goals as goal

pub returns-then-given-le8 : goal.returns-then-given-le8
returns-then-given-le8 c =
    let r = all_from_yields_List (λ step. nat_lt step 256) _ _ _ c.all.ensures.ran (YieldsList-from_slice c.args.given.now cc) (λ x b q k. search (rules, tests)) in
    rw (c.in-Ordered.is, le-leb _ _ c.if-given-le8.true) r

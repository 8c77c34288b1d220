use Rattle.std.proofs.Common.{rules}
use native.Mathlib.Omega.{arith}
use Rattle.decoder.specs.Survivors.{at}
use Rattle.bits.proofs.SignedWords.{read_is}
use Rattle.decoder.proofs.Answers.{over, uneven, narrow, fine, refuses, decodes, best_left}
use Rattle.decoder.proofs.best_path.best_path.Goals as goal

-- `decoder::best_path::best_path` meets its contract: the refusals in their order, else the path of the two passes.

pub returns-then-stages-gt-MAX_STAGES : goal.returns-then-stages-gt-MAX_STAGES
returns-then-stages-gt-MAX_STAGES c =
    let a = c.args in
    refuses a.stages a.g.now a.path.now 13 (λ h. omega arith) (over a.stages a.g.now a.path.now (omega arith))

pub returns-then-g-count : goal.returns-then-g-count
returns-then-g-count c =
    let a = c.args in
    refuses a.stages a.g.now a.path.now 13 (λ h. omega arith)
    (uneven a.stages a.g.now a.path.now (omega arith) (λ h. omega arith))

pub returns-then-path-count : goal.returns-then-path-count
returns-then-path-count c =
    let a = c.args in
    refuses a.stages a.g.now a.path.now 14 (λ h. omega arith)
    (narrow a.stages a.g.now a.path.now (omega arith) (omega arith) (omega arith))

pub returns : goal.returns
returns c =
    let tb = c.trace_back in
    let bs = c.best_state-last in
    let f = c.forward-metrics in
    let a = c.args in
    decodes a.stages a.g.now a.path.now _ _ (fine a.stages a.g.now a.path.now (omega arith) (omega arith) (omega arith))
    (best_left a.stages a.g.now f.new.decisions tb.new.path bs.result bs.ensures.0 f.ensures.1 tb.ensures.0
    (at f.result) _ f.ensures.0 bs.ensures.1 (read_is (at f.result bs.result) (search rules)))
    tb.ensures.1

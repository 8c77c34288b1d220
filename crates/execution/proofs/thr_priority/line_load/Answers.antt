use mathlib.Core.Path.{sym, ◌∙◌}
use native.Mathlib.Omega.{arith}
use Rattle.execution.proofs.LineSlots.{passed, first, first_code}
use Rattle.execution.proofs.ThrPriority.{next_load, no_load}
use Rattle.execution.proofs.thr_priority.line_load.Goals as goal

pub loop-words-init : goal.loop-words-init
loop-words-init c =
    let e = c.chunks_exact-words-items.ensures in
    let same = c.into_iter-words-iterator.ensures.into_iter_gives in
    record { size = rw same e.size; good = rw (same, e.rest) (passed _ c.requires).readable; same = rw (same, e.rest) }

pub loads-requires : goal.loads-requires
loads-requires c =
    let s = c.in-Some.ensures.steps in
    let i = c.loop-words.invariant in
    first_code (first _ _ _ s.1.0 (s.1.1 ∙ i.size) i.good)

pub returns-then-loads : goal.returns-then-loads
returns-then-loads c =
    let s = c.in-Some.ensures.steps in
    let i = c.loop-words.invariant in
    let f = first _ _ _ s.1.0 (s.1.1 ∙ i.size) i.good in
    sym (sym i.same ∙ next_load f _ _ c.loads.ensures ∙ rw c.if-loads.true)

pub loop-words-preserved : goal.loop-words-preserved
loop-words-preserved c =
    let s = c.in-Some.ensures.steps in
    let i = c.loop-words.invariant in
    let f = first _ _ _ s.1.0 (s.1.1 ∙ i.size) i.good in
    record {
      size = s.0 ∙ i.size;
      good = f.good;
      same = sym (next_load f _ _ c.loads.ensures ∙ rw c.if-loads.false) ∙ i.same;
    }

pub returns : goal.returns
returns c =
    let s = c.in-None.ensures.steps in
    let i = c.loop-words.invariant in
    sym (sym i.same ∙ no_load _ _ _ (omega (arith, s.1.0, i.size)))

use mathlib.Core.Path.{◌∙◌}
use native.Mathlib.Omega.{arith}
use Rattle.layout.specs.Layout.{machine_of}
use Rattle.conditional.proofs.LineSlots.{fetched_end_in}
use Rattle.execution.proofs.LineSlots.{passed, first, first_code}
use Rattle.execution.proofs.FetchedLines.{turn_first, place, turn_next, turn_last}
use Rattle.execution.proofs.fetched_line.fetch_line.Goals as goal

pub loop-s-init : goal.loop-s-init
loop-s-init c =
    let same = c.into_iter-s-iterator.ensures.into_iter_gives in
    let e = c.enumerate-s-items.ensures in
    let chunks = c.chunks_exact.ensures in
    record {
      size = rw (same, e.source) chunks.size;
      turn =
          rw (same, e.count, e.source)
          (turn_first _ (passed _ c.requires.0) _ c.told-fetched c.none_judged-judged.ensures chunks.rest);
    }

pub known_slot-slot-requires : goal.known_slot-slot-requires
known_slot-slot-requires c =
    let s = c.in-Some.ensures.steps.0 in
    let i = c.loop-s.invariant in
    first_code (first _ _ _ s.1.0 (s.1.1 ∙ i.size) i.turn.good)

pub bounds-fetched-s : goal.bounds-fetched-s
bounds-fetched-s c =
    let s = c.in-Some.ensures.steps in
    let i = c.loop-s.invariant in
    let h = place _ (passed _ c.requires.0) _ i.turn (first _ _ _ s.0.1.0 (s.0.1.1 ∙ i.size) i.turn.good) in
    omega (arith, s.1, h)

pub overflow_cast-s : goal.overflow_cast-s
overflow_cast-s c =
    let s = c.in-Some.ensures.steps in
    let i = c.loop-s.invariant in
    let h = place _ (passed _ c.requires.0) _ i.turn (first _ _ _ s.0.1.0 (s.0.1.1 ∙ i.size) i.turn.good) in
    omega (arith, s.1, h)

pub offset_bounds-fetched-s : goal.offset_bounds-fetched-s
offset_bounds-fetched-s c =
    let s = c.in-Some.ensures.steps in
    let i = c.loop-s.invariant in
    let h = place _ (passed _ c.requires.0) _ i.turn (first _ _ _ s.0.1.0 (s.0.1.1 ∙ i.size) i.turn.good) in
    omega (arith, s.1, h)

pub use_of-requires : goal.use_of-requires
use_of-requires c = fetched_end_in (machine_of c.args.files.now c.args.memory.now) _ c.fetch_in_line-x.ensures

pub loop-s-preserved : goal.loop-s-preserved
unfolding machine_of
loop-s-preserved c =
    let s = c.in-Some.ensures.steps in
    let i = c.loop-s.invariant in
    record {
      size = s.0.0 ∙ i.size;
      turn =
          turn_next _ (passed _ c.requires.0) _ i.turn (first _ _ _ s.0.1.0 (s.0.1.1 ∙ i.size) i.turn.good)
          c.known_slot-slot.ensures c.load_condition-load.ensures c.fetch_in_line-x.ensures s.1 s.2
          (rw c.use_of.ensures at c.judge-judged.ensures);
    }

pub returns : goal.returns
returns c =
    let s = c.in-None.ensures.steps.0 in
    let i = c.loop-s.invariant in
    turn_last _ (passed _ c.requires.0) _ i.turn (omega (arith, s.1.0, i.size)) c.verdict_of.ensures

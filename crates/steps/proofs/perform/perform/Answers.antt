use mathlib.Core.Path.{refl, sym, ap, ◌∙◌}
use native.Mathlib.Omega.{arith}
use lib.ListN.{length-set}
use Rattle.slots.specs.Conditionals.{no_slot, line_slot}
use Rattle.layout.proofs.EndWords.{stored_true}
use Rattle.steps.specs.Steps.{InLine, steps, steps_from}
use Rattle.steps.specs.SlotSteps.{acts_in}
use Rattle.steps.proofs.Stepped.{no_slot_lem, fetched, stored, none_held}
use Rattle.steps.proofs.Performed.{none_held_yet, stepped, no_more_steps}
use Rattle.steps.proofs.EndsHeld.{begun_held, fetched_held}
use Rattle.steps.proofs.perform.perform.Goals.{then-s-slots+then-byte-eq0, then-s-slots+else-byte-eq0+in-Some, then-s-slots+else-byte-eq0+in_default, else-s-slots}
use Rattle.steps.proofs.perform.perform.Goals as goal

pub loop-byte-init : goal.loop-byte-init
loop-byte-init c =
    let a = c.args in
    record {
      places = refl;
      done = ap (steps_from (acts_in a.slots.now) a.order.now) (none_held_yet _);
      ends = c.requires.1;
      held_ends = begun_held a.slots.now;
    }

pub loop-byte-preserved : goal.loop-byte-preserved
loop-byte-preserved c =
    let loop = c.loop-byte in
    let slots = c.args.slots.now in
    let order = c.args.order.now in
    let more = stepped (acts_in slots) order loop.byte-index c.loop-byte-test.true in
    elim c.if-s-slots.branch [
      | then-s-slots+then-byte-eq0 w ↦
          (rw (w.files-is, w.memory-is, w.held-is)
          record {
            places = length-set loop.held _ _ ∙ loop.invariant.places;
            done = more _ _ _ (fetched _ slots loop.held _ w.if-s-slots.true _ (omega arith) w.if-byte-eq0.true
                w.fetch_in_line.ensures) loop.invariant.done;
            ends = loop.invariant.ends;
            held_ends = fetched_held slots loop.held loop.invariant.held_ends _ _ _ (omega arith) w.fetch_in_line.ensures;
          })
      | then-s-slots+else-byte-eq0+in-Some w ↦
          (rw (w.files-is, w.memory-is, w.held-is)
          record {
            places = loop.invariant.places;
            done = more _ _ _ (stored _ slots loop.held _ w.if-s-slots.true _ w.if-byte-eq0.false w.in-Some.is
                w.store_in_line.ensures) loop.invariant.done;
            ends = stored_true loop.files _ loop.memory _ _ w.store_in_line.ensures loop.invariant.ends;
            held_ends = loop.invariant.held_ends;
          })
      | then-s-slots+else-byte-eq0+in_default w ↦
          (rw (w.files-is, w.memory-is, w.held-is)
          record {
            places = loop.invariant.places;
            done = more _ _ _ (none_held _ slots loop.held _ w.if-s-slots.true (line_slot no_slot 0 0) w.if-byte-eq0.false w.in_default.not-Some) loop.invariant.done;
            ends = loop.invariant.ends;
            held_ends = loop.invariant.held_ends;
          })
      | else-s-slots w ↦
          (rw (w.files-is, w.memory-is, w.held-is)
          record {
            places = loop.invariant.places;
            done = more _ _ _ (no_slot_lem _ slots loop.held _ w.if-s-slots.false) loop.invariant.done;
            ends = loop.invariant.ends;
            held_ends = loop.invariant.held_ends;
          })
    ]

pub returns : goal.returns
unfolding steps
returns c =
    let loop = c.loop-byte in
    let a = c.args in
    ap (λ (x : InLine). x.machine)
    (sym (no_more_steps (acts_in a.slots.now) a.order.now loop.byte-index _ c.loop-byte-test.false) ∙ loop.invariant.done)

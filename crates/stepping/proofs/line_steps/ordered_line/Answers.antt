use mathlib.Core.Path.{ap, ◌∙◌}
use native.Mathlib.Omega.{arith}
use Rattle.std.proofs.Common.{rules}
use Prim.Native.Nat.{ℕ, ◌*◌, min}
use lib.ListN.{length, length-take}
use Rattle.layout.specs.Layout.{machine_of}
use Rattle.execution.specs.PlainLine.{line_of}
use Rattle.execution.proofs.LineSlots.{passed, slot_count}
use Rattle.stepping.proofs.Made.{state_refused, not_admissible, steps_made, first_slots}
use Rattle.stepping.proofs.line_steps.ordered_line.Goals as goal

pub returns-in_err-fetch_line : goal.returns-in_err-fetch_line
returns-in_err-fetch_line c =
    let a = c.args in
    state_refused (line_of a.line.now) (machine_of a.files.now a.memory.now) a.order.now a.left c.fetch_line.ensures.0
    c.in_err-fetch_line.was (search rules)

pub slice_bounds-fetched-end : goal.slice_bounds-fetched-end
slice_bounds-fetched-end c =
    let p = passed _ c.requires.0 in
    omega (arith, slot_count _ p, p.four, c.fetch_line.array_long)

pub slice_bounds-admissible-end : goal.slice_bounds-admissible-end
slice_bounds-admissible-end c =
    let p = passed _ c.requires.0 in
    simp length-take (omega (arith, slot_count _ p, p.four, c.fetch_line.array_long))

pub slice_bounds-slots-end : goal.slice_bounds-slots-end
slice_bounds-slots-end c =
    let p = passed _ c.requires.0 in
    omega (arith, slot_count _ p, p.four)

pub slice_bounds-perform-end-2 : goal.slice_bounds-perform-end-2
slice_bounds-perform-end-2 c =
    let p = passed _ c.requires.0 in
    simp length-take (omega (arith, slot_count _ p, p.four))

pub returns-then-not-admissible : goal.returns-then-not-admissible
returns-then-not-admissible c =
    let a = c.args in
    not_admissible (line_of a.line.now) (machine_of a.files.now a.memory.now) a.order.now a.left c.fetch_line.ensures.0
    c.in_ok-fetch_line.was c.fetch_line.ensures.1 (passed _ c.requires.0).valid c.admissible.ensures
    c.if-not-admissible.true

pub returns : goal.returns
unfolding machine_of
returns c =
    let a = c.args in
    let p = passed _ c.requires.0 in
    steps_made (line_of a.line.now) (machine_of a.files.now a.memory.now) a.order.now a.left c.fetch_line.ensures.0
    c.in_ok-fetch_line.was c.fetch_line.ensures.1 p.valid c.admissible.ensures c.if-not-admissible.false
    (first_slots _ c.fetch_line.new.fetched _ _ _ _ c.fetch_line.array_long)
    (c.min-made.ensures
    ∙ ap (min a.left) c.min-steps.ensures
    ∙ ap (λ (i : ℕ). min a.left (min (2 * i) (length a.order.now))) (slot_count _ p)) c.perform.ensures

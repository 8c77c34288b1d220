use mathlib.Core.Path.{sym, ap, ◌∙◌}
use mathlib.Core.List.{List}
use native.Mathlib.Omega.{arith}
use borrow.Author.Rules.{rules}
use lib.ListN.{length-take}
use Rattle.machine.specs.Fetches.{puts}
use Rattle.layout.specs.Layout.{machine_of}
use Rattle.conditional.specs.declared.line_slot.Fetched.{Fetched}
use Rattle.execution.specs.PlainLine.{stores_of, plain_line}
use Rattle.execution.proofs.LineSlots.{passed, slot_count}
use Rattle.execution.proofs.FetchedLines.{held_end, next_store, no_more_stores, refused, ran}
use Rattle.execution.proofs.plain_line.run_line.Goals as goal

pub returns-in_err-fetch_line : goal.returns-in_err-fetch_line
returns-in_err-fetch_line c =
    (search rules, refused _ _ c.in_err-fetch_line.was c.fetch_line.ensures.0)

pub slice_bounds-fetched-end : goal.slice_bounds-fetched-end
slice_bounds-fetched-end c =
    let p = passed _ c.requires.0 in
    omega (arith, slot_count _ p, p.four, c.fetch_line.array_long)

pub slice_bounds-x-items-end : goal.slice_bounds-x-items-end
slice_bounds-x-items-end c =
    let p = passed _ c.requires.0 in
    simp length-take (omega (arith, slot_count _ p, p.four, c.fetch_line.array_long))

pub loop-x-init : goal.loop-x-init
unfolding plain_line
loop-x-init c =
    let a = c.args in
    ap (λ (xs : List Fetched). puts (stores_of xs) (machine_of a.files.now a.memory.now)) c.fetch_line.ensures.1

pub store_in_line-requires : goal.store_in_line-requires
store_in_line-requires c = held_end _ _ c.fetch_line.ensures.1 _ _ c.loop-x-test.true

pub loop-x-preserved : goal.loop-x-preserved
loop-x-preserved c =
    let loop = c.loop-x in
    rw c.store_in_line.ensures
    (sym (next_store _ _ c.fetch_line.ensures.1 loop.x-index _ (machine_of loop.files loop.memory) c.loop-x-test.true)
    ∙ loop.invariant)

pub returns : goal.returns
returns c =
    let loop = c.loop-x in
    let done = sym (no_more_stores _ loop.x-index (machine_of loop.files loop.memory) c.loop-x-test.false) ∙ loop.invariant in
    let r = ran _ _ c.in_ok-fetch_line.was c.fetch_line.ensures.0 in
    (r.0, done ∙ r.1)

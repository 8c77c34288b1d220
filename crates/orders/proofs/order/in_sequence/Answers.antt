use mathlib.Core.Path.{sym}
use native.Mathlib.Omega.{arith}
use lib.ListN.{length, get_or}
use Rattle.orders.specs.AdmissibleFetched.{in_sequence_by}
use Rattle.orders.proofs.Below.{below_false, below_more, below_all}
use Rattle.orders.proofs.Pairs.{pair_before, pair_own, pair_reads, pair_apart, reads_stored_in}
use Rattle.orders.proofs.order.in_sequence.Goals as goal

pub loop-t-preserved-then-at-s : goal.loop-t-preserved-then-at-s
loop-t-preserved-then-at-s c =
    let row = c.loop-t in
    record {
      here = row.invariant.here;
      row = below_more row.t _ row.invariant.row (pair_before (λ b. get_or c.args.at b 0) c.args.slots.now _ row.t c.if-at-s.true);
    }

pub returns-then-s-t : goal.returns-then-s-t
unfolding in_sequence_by
returns-then-s-t c =
    let row = c.loop-t in
    let loop = c.loop-s in
    let slots = c.args.slots.now in
    sym (below_false (length slots) _ loop.s row.invariant.here (below_false (length slots) _ row.t c.loop-t-test.true
    (pair_own (λ b. get_or c.args.at b 0) slots loop.s row.t c.if-at-s.false c.if-s-t.true)))

pub returns-then-meets : goal.returns-then-meets
unfolding in_sequence_by
returns-then-meets c =
    let row = c.loop-t in
    let loop = c.loop-s in
    let slots = c.args.slots.now in
    let meet = reads_stored_in slots loop.s row.t _ _ row.invariant.here c.loop-t-test.true
    c.reads_in_line.ensures c.stores_in_line.ensures c.meets.ensures in
    sym (below_false (length slots) _ loop.s row.invariant.here (below_false (length slots) _ row.t c.loop-t-test.true
    (pair_reads (λ b. get_or c.args.at b 0) slots loop.s row.t c.if-at-s.false c.if-s-t.false meet c.if-meets.true)))

pub loop-t-preserved : goal.loop-t-preserved
loop-t-preserved c =
    let row = c.loop-t in
    let loop = c.loop-s in
    let slots = c.args.slots.now in
    let meet = reads_stored_in slots loop.s row.t _ _ row.invariant.here c.loop-t-test.true
    c.reads_in_line.ensures c.stores_in_line.ensures c.meets.ensures in
    record {
      here = row.invariant.here;
      row = below_more row.t _ row.invariant.row
          (pair_apart (λ b. get_or c.args.at b 0) slots loop.s row.t c.if-at-s.false c.if-s-t.false meet c.if-meets.false);
    }

pub loop-s-preserved : goal.loop-s-preserved
loop-s-preserved c =
    let row = c.loop-t in
    let loop = c.loop-s in
    below_more loop.s _ loop.invariant
    (sym (below_all (length c.args.slots.now) _ (omega arith) c.loop-t-test.false row.invariant.row))

pub returns : goal.returns
unfolding in_sequence_by
returns c =
    let loop = c.loop-s in below_all (length c.args.slots.now) _ (omega arith) c.loop-s-test.false loop.invariant

use native.Mathlib.Omega.{arith}
use mathlib.Core.Path.{◌≡◌, sym, ◌∙◌}
use lib.ListN.{length}
use Rattle.replay.proofs.Differences.{one_expected, one_found, both_ended, two_differ, two_equal}
use Rattle.replay.proofs.compare.first_difference.Goals as goal

pub returns-then-i-found : goal.returns-then-i-found
returns-then-i-found c =
    let l = c.loop-i in
    c.differ.ensures ∙ one_expected _ _ _ l.i (omega arith) c.if-i-found.true ∙ sym l.invariant.same

pub returns-then-e-f : goal.returns-then-e-f
returns-then-e-f c =
    let l = c.loop-i in
    c.differ-then-e-f.ensures ∙ rw c.from.ensures (two_differ _ _ _ l.i (omega arith) (omega arith) c.if-e-f.true ∙ sym l.invariant.same)

pub loop-i-preserved : goal.loop-i-preserved
loop-i-preserved c =
    let l = c.loop-i in
    record {
      found = omega arith;
      same = l.invariant.same ∙ two_equal _ _ _ l.i (omega arith) (omega arith) c.if-e-f.false;
    }

pub returns-then-n-found : goal.returns-then-n-found
returns-then-n-found c =
    let l = c.loop-i in
    let e : l.i ≡ length c.args.expected.now = omega arith in
    let q = rw e at l.invariant.same in
    c.differ-then-n-found.ensures ∙ rw c.from-then-n-found.ensures (one_found _ _ _ _ (omega arith) c.if-n-found.true ∙ sym q)

pub returns : goal.returns
returns c =
    let l = c.loop-i in
    both_ended _ _ _ l.i (omega arith) (omega arith) ∙ sym l.invariant.same

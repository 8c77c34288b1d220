use native.Mathlib.Omega.{arith}
use lib.ListN.{set, length-set}
use mathlib.Core.Path.{◌∙◌}
use Prim.Native.Nat.{◌+◌, ◌*◌}
use Rattle.layout.specs.Layout.{words_of_ends}
use Rattle.states.proofs.EndsLaid.{words_length, one_split, all_taken}
use Rattle.states.proofs.words.split_ends.Goals as goal

pub loop-i-preserved : goal.loop-i-preserved
loop-i-preserved c =
    let l = c.loop-i in
    let ends = c.args.ends in record {
      words_kept = length-set (set l.words (2 * l.i) _) (2 * l.i + 1) _ ∙ length-set l.words (2 * l.i) _ ∙ l.invariant.words_kept;
      same = one_split l.words ends l.i _ _ (omega arith) (omega arith) l.invariant.words_kept l.invariant.same c.low_word.ensures c.high_word.ensures;
    }

pub returns : goal.returns
returns c =
    let l = c.loop-i in
    let n = words_length c.args.ends in
    all_taken (2 * l.i) l.words (words_of_ends c.args.ends) (omega arith) (omega arith) l.invariant.same

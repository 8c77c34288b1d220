use Rattle.std.proofs.Common.{◌≡◌, ◌∙◌, arith}
use Rattle.layout.proofs.EndWords.{all_right}
use Rattle.layout.proofs.ends.put_right.Goals as goal

pub returns : goal.returns
returns c =
    let l = c.loop-i in
    let eight : l.i ≡ 8 = omega arith in
    λ mem. l.invariant.renewed mem ∙ rw eight (all_right c.args.files.now mem c.told-files)

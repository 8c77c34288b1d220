use native.Mathlib.Omega.{arith}
use Rattle.layout.proofs.EndWords.{renewed}
use Rattle.layout.proofs.ends.renew.Goals as goal

pub returns : goal.returns
returns c =
    λ mem.
    renewed c.args.words.now mem c.args.i _ _ c.requires.0 (omega (arith, c.high_word.ensures, c.low_word.ensures))

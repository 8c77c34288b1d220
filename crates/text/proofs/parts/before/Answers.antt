use Rattle.std.proofs.Common.{refl}
use native.Mathlib.Nat.{sub-zero}
use Rattle.text.proofs.parts.before.Goals as goal

pub returns : goal.returns
returns c = rw (sub-zero c.find-n.result, c.find-n.ensures.0) refl

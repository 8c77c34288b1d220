use mathlib.Core.Path.{refl}
use Rattle.bits.specs.Sums.{bits}
use Rattle.bits.proofs.SignedWords.{saturates, half_size}
use Rattle.bits.proofs.signed.saturate.Goals as goal

pub returns : goal.returns
returns c =
    let s = half_size c.args.w in
    saturates (bits c.args.w) _ c.args.z c.half-h.result c.clamp-x.result refl s.0 s.1 c.ranges.z c.half-h.ensures c.clamp-x.ensures.value

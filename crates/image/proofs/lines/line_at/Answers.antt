use native.Mathlib.Omega.{arith}
use Rattle.image.proofs.Walk.{pair_inside, line_inside, line_lent}
use Rattle.image.proofs.lines.line_at.Goals as goal

pub bounds-image-pair : goal.bounds-image-pair
bounds-image-pair c = omega (arith, pair_inside _ _ c.requires.0 c.requires.1)

pub bounds-image-pair-2 : goal.bounds-image-pair-2
bounds-image-pair-2 c = omega (arith, pair_inside _ _ c.requires.0 c.requires.1)

pub slice_bounds-result-end : goal.slice_bounds-result-end
slice_bounds-result-end c = line_inside _ _ c.requires.0 c.requires.1

pub returns : goal.returns
returns c = line_lent _ _ c.requires.0 c.requires.1

use mathlib.Core.Path.{◌≡◌}
use Prim.Native.Nat.{◌-◌}
use Rattle.image.specs.Check.{lines_from, lines_of, line_by_line}
use Rattle.image.proofs.check.check_lines.Given as goal

-- the lines before line k break no rule
abbrev pub invariant-loop-k : goal.invariant-loop-k
invariant-loop-k l = line_by_line 0 (lines_of l.image) ≡ line_by_line l.k (lines_from l.image l.k (l.k-end - l.k))

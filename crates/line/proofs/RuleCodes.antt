-- 0 is no rule's code, so that a check's answer is Ok exactly where the code of its verdict is 0.
use mathlib.Core.Path.{◌≡◌}
use native.Mathlib.Omega.{arith}
use Rattle.line.specs.Verdicts.{rule_code}
use Rattle.line.specs.declared.rules.Rule.{Rule}
use Rattle.line.specs.declared.rules.Rule.TheVariants.{Length, Fields, Condition, Modifier, Positions, Units, Blocks, Registers}
use Rattle.line.specs.declared.rules.Rule.TheVariants.{Circular, Aligned, Access, Words, Order}

pub some_code : (r : Rule) → rule_code r ≡ 0 → ⊥
some_code Length e = omega arith
some_code Fields e = omega arith
some_code Condition e = omega arith
some_code Modifier e = omega arith
some_code Positions e = omega arith
some_code Units e = omega arith
some_code Blocks e = omega arith
some_code Registers e = omega arith
some_code Circular e = omega arith
some_code Aligned e = omega arith
some_code Access e = omega arith
some_code Words e = omega arith
some_code Order e = omega arith

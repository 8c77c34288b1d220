-- 01, 'Runs and orders': a line of the ordered run.
use Rattle.std.specs.Prelude.{ℕ, List, Bool, length, take, eqb}
use Rattle.bits.specs.Pick.{pick}
use Rattle.slots.specs.declared.conditional_slot.Conditional.{Conditional}
use Rattle.line.specs.Rules.{verdict}
use Rattle.line.specs.Verdicts.{Verdict}
use Rattle.machine.specs.Machine.{Machine}
use Rattle.execution.specs.PlainLine.{refusal_of}
use Rattle.steps.specs.Steps.{in_place}
use Rattle.orders.specs.Orders.{step_bytes, admissible}

-- the steps of a line that are made where `left` of the limit are left
abbrev pub made_of : ℕ → List Conditional → List ℕ → List ℕ
made_of left line order = take left (step_bytes (length line) order)

-- ---- the checks on a line just before its first step: 9, 17, 8, 10 of the running state, then 11 of the order

abbrev pub order_verdict : Verdict → Bool → Verdict
order_verdict v is_admissible = pick (eqb v.code 0) (pick is_admissible (verdict 0 0) (verdict 11 0)) v

unfoldable pub ordered_refusal : List Conditional → Machine → List ℕ → Verdict
ordered_refusal line m order = order_verdict (refusal_of line m) (admissible line m order)

-- what the steps leave that `left` allows; nothing is done where the line is refused
unfoldable pub ordered_end : List Conditional → ℕ → Machine → List ℕ → Machine
ordered_end line left m order =
    pick (eqb (ordered_refusal line m order).code 0) (in_place line (made_of left line order) m) m

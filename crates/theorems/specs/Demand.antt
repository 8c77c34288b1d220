-- What demand 3 speaks of: orders that are admissible along the plain run, and the memory words that the steps of the ordered
-- run touch. The claim itself is proofs/Demand3.antt.
use Rattle.std.specs.Prelude.{◌≡◌, true, List, [], ◌∷◌, ℕ, ◌+◌, ◌-◌, ◌/◌, ◌%◌, ◌<◌, length, drop, eqb}
use Rattle.std.proofs.Math.Option.{Option, none, some}
use Rattle.bits.specs.Pick.{pick}
use Rattle.slots.specs.Lists.{nth_of}
use Rattle.slots.specs.Places.{Place}
use Rattle.slots.specs.declared.conditional_slot.Conditional.{Conditional}
use Rattle.machine.specs.Machine.{Machine}
use Rattle.machine.specs.Fetches.{asked, targets}
use Rattle.execution.specs.PlainLine.{plain_line, refusal_of, line_of}
use Rattle.execution.specs.Touches.{memory_of}
use Rattle.steps.specs.Steps.{Act, act_of, acts_of, InLine, begun, step, in_place}
use Rattle.orders.specs.Orders.{step_bytes, admissible}
use Rattle.runs.specs.Plain.{line_steps}
use Rattle.theorems.specs.Buffers.{Buffered}
use Rattle.ordered.specs.Ordered.{order_bytes, order_of}
use Rattle.stepping.specs.OrderedLine.{made_of, ordered_refusal}

-- ---- orders along the plain run

-- the order of each line that the plain run does is admissible on the machine before it
abbrev pub AllAdmissible : List (List ℕ) → List ℕ → Machine → Type 0
AllAdmissible [] orders m = Unit {0}
AllAdmissible (w ∷ ws) orders m =
    (refusal_of (line_of w) m).code ≡ 0
    → (admissible (line_of w) m (order_of orders) ≡ true)
    × AllAdmissible ws (drop order_bytes orders) (plain_line (line_of w) m)

-- ---- the words that a step touches

-- the memory words that a step touches: those that a fetch asks of the machine as the steps before it left it, and those
-- that a store of the words held stores
abbrev pub held_stores : Act → Option (List ℕ) → List Place
held_stores a none = []
held_stores a (some v) = targets (a.makes v)

abbrev pub step_touches : Act → ℕ → InLine → List Place
step_touches a b c = memory_of (pick (eqb (b % 2) 0) (asked a.asks c.machine) (held_stores a (c.holds (b / 2))))

-- a step of slot x of the line, m being the machine before the line
abbrev pub StepInBuffer : List Conditional → Machine → ℕ → InLine → Type 0
StepInBuffer line m b c =
    (x : Conditional) → nth_of some none (b / 2) line ≡ some x → Buffered m (step_touches (act_of line x) b c) x.slot

abbrev pub StepsInBuffers : List Conditional → Machine → List ℕ → InLine → Type 0
StepsInBuffers line m [] c = Unit {0}
StepsInBuffers line m (b ∷ bs) c = StepInBuffer line m b c × StepsInBuffers line m bs (step (acts_of line) b c)

-- each line of which the ordered run makes a step
abbrev pub AlongOrdered : ℕ → ℕ → List (List ℕ) → List ℕ → Machine → Type 0
AlongOrdered limit steps [] orders m = Unit {0}
AlongOrdered limit steps (w ∷ ws) orders m =
    let line = line_of w in
    let made = made_of (limit - steps) line (order_of orders) in
    steps < limit → (ordered_refusal line m (order_of orders)).code ≡ 0
    → StepsInBuffers line m made (begun m)
    × (length made ≡ line_steps line
    → AlongOrdered limit (steps + length made) ws (drop order_bytes orders) (in_place line made m))

-- every step of every line of an ordered run that makes them all
abbrev pub EveryStep : List (List ℕ) → List ℕ → Machine → Type 0
EveryStep [] orders m = Unit {0}
EveryStep (w ∷ ws) orders m =
    let line = line_of w in
    let made = step_bytes (length line) (order_of orders) in
    StepsInBuffers line m made (begun m) × EveryStep ws (drop order_bytes orders) (in_place line made m)

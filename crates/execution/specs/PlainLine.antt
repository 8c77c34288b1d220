-- 01, 'Runs and orders': the plain line. All slots read the state before the line; then all their stores apply.
use Rattle.std.specs.Prelude.{ℕ, List, [], ◌∷◌, ◌++◌, length, eqb}
use Rattle.bits.specs.Pick.{pick}
use Rattle.slots.specs.declared.conditional_slot.Conditional.{Conditional}
use Rattle.line.specs.Rules.{slots_of}
use Rattle.line.specs.Lines.{read_line}
use Rattle.line.specs.Verdicts.{Verdict}
use Rattle.machine.specs.Machine.{Machine}
use Rattle.machine.specs.Fetches.{Write, puts}
use Rattle.conditional.specs.LineSlots.{store_in}
use Rattle.conditional.specs.declared.line_slot.Fetched.{Fetched}
use Rattle.refusals.specs.Refusals.{fetch_line, run_verdict}

-- the stores of slots that are fetched
abbrev pub stores_of : List Fetched → List Write
stores_of [] = []
stores_of (x ∷ xs) = store_in x.slot.slot x.held ++ stores_of xs

unfoldable pub plain_line : List Conditional → Machine → Machine
plain_line line m = puts (stores_of (fetch_line line m)) m

-- the running state's verdict on a line
unfoldable pub refusal_of : List Conditional → Machine → Verdict
refusal_of line m = run_verdict (length m.memory) (fetch_line line m)

-- what a line leaves: where it is refused, the machine before it
unfoldable pub line_end : List Conditional → Machine → Machine
line_end line m = pick (eqb (refusal_of line m).code 0) (plain_line line m) m

-- the slots of a line's words
abbrev pub line_of : List ℕ → List Conditional
line_of w = slots_of (read_line w)

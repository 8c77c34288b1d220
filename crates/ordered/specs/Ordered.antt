-- 01, 'Runs and orders': the ordered run.
use Rattle.std.specs.Prelude.{ℕ, suc, ◌+◌, ◌-◌, ◌*◌, List, [], ◌∷◌, length, take, drop, ltb, leb, eqb}
use Rattle.bits.specs.Pick.{pick}
use Rattle.image.specs.Directory.{line_count}
use Rattle.image.specs.Check.{lines_of}
use Rattle.machine.specs.Machine.{Machine, put_right}
use Rattle.execution.specs.PlainLine.{line_of}
use Rattle.steps.specs.Steps.{in_place}
use Rattle.stepping.specs.OrderedLine.{made_of, ordered_refusal}
use Rattle.runs.specs.Plain.{End, ended, report, line_steps, if_accepted}

-- the orders have eight bytes a line
abbrev pub order_bytes : ℕ
order_bytes = 8

-- the order of the first line
abbrev pub order_of : List ℕ → List ℕ
order_of orders = take order_bytes orders

-- line by line, after `lines` lines with `steps` steps. A spent limit comes before the next line's checks, and they come
-- just before its first step; a line is done when its last step is made. The machine stops with code 0 when the limit is
-- spent, even inside a line
unfoldable pub ordered_from : ℕ → ℕ → ℕ → List (List ℕ) → List ℕ → Machine → End
ordered_from limit lines steps [] orders m = ended (report 0 0 0 lines steps) m
ordered_from limit lines steps (w ∷ ws) orders m =
    let line = line_of w in
    let refusal = ordered_refusal line m (order_of orders) in
    let made = made_of (limit - steps) line (order_of orders) in
    pick (leb limit steps) (ended (report 0 0 0 lines steps) m)
    (pick (eqb refusal.code 0)
    (pick (ltb (length made) (line_steps line)) (ended (report 0 0 0 lines (steps + length made)) (in_place line made m))
    (ordered_from limit (suc lines) (steps + length made) ws (drop order_bytes orders) (in_place line made m)))
    (ended (report refusal.code lines refusal.slot lines steps) m))

-- a run of an image: 11 for orders that are not 8n bytes, which is tested when the check has passed
unfoldable pub ordered_run_on : List ℕ → List ℕ → ℕ → Machine → End
ordered_run_on w orders limit m =
    if_accepted w m
    (pick (eqb (length orders) (order_bytes * line_count w)) (ordered_from limit 0 0 (lines_of w) orders m)
    (ended (report 11 0 0 0 0) m))

-- the whole run: on the machine with its ends put right, before anything else (document 02, Note 2)
unfoldable pub ordered_run : List ℕ → List ℕ → ℕ → Machine → End
ordered_run w orders limit m = ordered_run_on w orders limit (put_right m)

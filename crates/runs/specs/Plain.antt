-- 01, 'Runs and orders': the plain run.
use Rattle.std.specs.Prelude.{ℕ, suc, ◌+◌, ◌*◌, List, [], ◌∷◌, length, ltb, eqb, Result, Ok, Err}
use Rattle.bits.specs.Pick.{pick}
use Rattle.slots.specs.declared.conditional_slot.Conditional.{Conditional}
use Rattle.image.specs.Directory.{max_words}
use Rattle.image.specs.Check.{lines_of, check_of}
use Rattle.machine.specs.Machine.{Machine, put_right}
use Rattle.execution.specs.PlainLine.{plain_line, refusal_of, line_of}
use Rattle.runs.specs.declared.report.Report.{Report}

-- what a run ends with
pub record End : Type 0 where
  pub report : Report
  pub machine : Machine

abbrev pub ended : Report → Machine → End
ended r m = record { report = r; machine = m }

abbrev pub report : ℕ → ℕ → ℕ → ℕ → ℕ → Report
report code line slot lines steps = record { code = code; line = line; slot = slot; lines = lines; steps = steps }

-- steps of a line: two a slot
abbrev pub line_steps : List Conditional → ℕ
line_steps line = 2 * length line

-- line by line, after `lines` lines with `steps` steps; a line that is refused leaves the machine of the lines done
unfoldable pub plain_from : ℕ → ℕ → List (List ℕ) → Machine → End
plain_from lines steps [] m = ended (report 0 0 0 lines steps) m
plain_from lines steps (w ∷ ws) m =
    pick (eqb (refusal_of (line_of w) m).code 0)
    (plain_from (suc lines) (steps + line_steps (line_of w)) ws (plain_line (line_of w) m))
    (ended (report (refusal_of (line_of w) m).code lines (refusal_of (line_of w) m).slot lines steps) m)

-- what a run answers before its lines: 1 for a memory that is too long, then as the check call answers
abbrev pub before_lines : List ℕ → ℕ → Report
before_lines w size =
    pick (ltb max_words size) (report 1 0 0 0 0) (report (check_of w).code (check_of w).line (check_of w).slot 0 0)

-- a report where something is refused
abbrev pub accepted : Report → Result (Unit {0}) Report
accepted r = pick (eqb r.code 0) (Ok tt) (Err r)

-- a run of an image: its lines, where nothing refuses them before the first. Before the run nothing changes (but the ends,
-- which are right by then)
abbrev pub if_accepted : List ℕ → Machine → End → End
if_accepted w m lines =
    let before = before_lines w (length m.memory) in
    pick (eqb before.code 0) lines (ended before m)

unfoldable pub plain_run_on : List ℕ → Machine → End
plain_run_on w m = if_accepted w m (plain_from 0 0 (lines_of w) m)

-- the whole run: on the machine with its ends put right, before anything else (document 02, Note 2)
unfoldable pub plain_run : List ℕ → Machine → End
plain_run w m = plain_run_on w (put_right m)

-- Demand 3: for every image that passes the check, all orders that are admissible line by line along the plain run, every
-- state, every memory of at most 16,384 words and every limit not below the plain run's steps, where the plain run ends with
-- code 0 the ordered run ends as it does, ends of buffers included; and in both runs, on every line of the image and in every
-- step, every circular access with a length above 0 touches only words of its own buffer, by the base and length before the
-- line. Both runs begin with the ends put right (`put_right`); on which orders are admissible ends have no influence.
use mathlib.Core.Path.{◌≡◌, refl, sym, ◌∙◌}
use mathlib.Core.Bool.{Bool, true, false}
use mathlib.Core.List.{List, [], ◌∷◌}
use Prim.Native.Nat.{ℕ, suc, ◌+◌, ◌*◌, ◌≤◌, ◌<◌}
use native.Mathlib.Omega.{arith}
use lib.ListN.{length, drop, length-drop}
use lib.Dec.{eqb}
use borrow.Author.Tests.{eqb-true, eqb-false, eq-eqb, le-ltb}
use Rattle.slots.specs.Lists.{All}
use Rattle.line.proofs.Accepted.{Accepted}
use Rattle.image.specs.Directory.{max_words, line_count}
use Rattle.image.specs.Check.{lines_of, check_of}
use Rattle.machine.specs.Machine.{Machine, machine, put_right}
use Rattle.machine.specs.declared.state.State.{State}
use Rattle.machine.proofs.Ends.{right_view, right_memory}
use Rattle.execution.specs.PlainLine.{plain_line, refusal_of, line_of}
use Rattle.runs.specs.Plain.{ended, line_steps, plain_from, before_lines, plain_run_on, plain_run}
use Rattle.runs.specs.declared.report.Ran.{Ran}
use Rattle.theorems.specs.Buffers.{InBuffers, Every}
use Rattle.theorems.proofs.Answers.{answered_alike}
use Rattle.theorems.proofs.SameFiles.{admissible_along}
use Rattle.theorems.proofs.Buffers.{every_buffer_kept}
use Rattle.ordered.specs.Ordered.{order_bytes, ordered_from, ordered_run_on, ordered_run}
use Rattle.theorems.specs.Demand.{AllAdmissible, EveryStep}
use Rattle.theorems.proofs.NextLine.{enough, enough_done, enough_above, grows, plain_next, enough_refused, ordered_next, both_refused}
use Rattle.image.proofs.Walk.{lines_counted}
use Rattle.image.proofs.AcceptedImage.{lines_accepted}
use Rattle.theorems.proofs.OrderedBuffers.{every_step}

-- ---- the lines

-- where the lines' orders are admissible and the limit lets the ordered run come as far, both runs end alike
lines_agree : (limit lines steps : ℕ) (ws : List (List ℕ)) (orders : List ℕ) (m : Machine) → All Accepted ws
    → length orders ≡ 8 * length ws → AllAdmissible ws orders m → enough (plain_from lines steps ws m) ≤ limit
    → ordered_from limit lines steps ws orders m ≡ plain_from lines steps ws m
unfolding ordered_from plain_from
lines_agree limit lines steps [] orders m a h d l = refl
lines_agree limit lines steps (w ∷ ws) orders m a h d l =
    go (eqb (refusal_of (line_of w) m).code 0) refl
    (lines_agree limit (suc lines) (steps + line_steps (line_of w)) ws (drop order_bytes orders) (plain_line (line_of w) m)
    a.1 (simp length-drop (omega arith)))
  where
    size : ℕ
    size = line_steps (line_of w)

    plain : Machine
    plain = plain_line (line_of w) m

    go : (b : Bool) → eqb (refusal_of (line_of w) m).code 0 ≡ b
        → (AllAdmissible ws (drop order_bytes orders) plain
        → enough (plain_from (suc lines) (steps + size) ws plain) ≤ limit
        → ordered_from limit (suc lines) (steps + size) ws (drop order_bytes orders) plain
        ≡ plain_from (suc lines) (steps + size) ws plain)
        → ordered_from limit lines steps (w ∷ ws) orders m ≡ plain_from lines steps (w ∷ ws) m
    go true q rest =
        let passed = eqb-true (refusal_of (line_of w) m).code 0 q in
        let (admitted, others) = d passed in
        let next = plain_next lines steps w ws m passed in
        let left = rw next at l in
        let more = grows (suc lines) (steps + size) ws plain in
        ordered_next limit lines steps w ws orders m a.0 (omega arith) passed admitted (omega arith)
        ∙ rest others left
        ∙ sym next
    go false q rest =
        let refused = eqb-false (refusal_of (line_of w) m).code 0 q in
        both_refused limit lines steps w ws orders m refused
        (omega (arith, enough_refused lines steps w ws m refused))

-- ---- the runs

module _ (image orders : List ℕ) (limit : ℕ) (start : Machine) where
  -- an image and a memory that pass let both runs come to the lines
  passes : (check_of image).code ≡ 0 → length start.memory ≤ 16384
      → (before_lines image (length (put_right start).memory)).code ≡ 0
  passes e h = rw (right_memory start, le-ltb max_words (length start.memory) h) e

  plain_lines : (check_of image).code ≡ 0 → length start.memory ≤ 16384
      → plain_run image start ≡ plain_from 0 0 (lines_of image) (put_right start)
  unfolding plain_run plain_run_on
  plain_lines e h = rw (eq-eqb (before_lines image (length (put_right start).memory)).code 0 (passes e h))

  ordered_lines_lem : (check_of image).code ≡ 0 → length start.memory ≤ 16384 → length orders ≡ 8 * line_count image
      → ordered_run image orders limit start ≡ ordered_from limit 0 0 (lines_of image) orders (put_right start)
  unfolding ordered_run ordered_run_on
  ordered_lines_lem e h n =
      rw (
        eq-eqb (before_lines image (length (put_right start).memory)).code 0 (passes e h),
        eq-eqb (length orders) (order_bytes * line_count image) n,
      )

  -- the orders that are admissible along the plain run from the start are so from the start put right
  along : AllAdmissible (lines_of image) orders start → AllAdmissible (lines_of image) orders (put_right start)
  along d = admissible_along (lines_of image) orders start (put_right start) (λ f. sym (right_view start f)) d

  runs_agree : (check_of image).code ≡ 0 → length start.memory ≤ 16384 → length orders ≡ 8 * line_count image
      → AllAdmissible (lines_of image) orders start → enough (plain_run image start) ≤ limit
      → ordered_run image orders limit start ≡ plain_run image start
  runs_agree e h n d l =
      let plain = plain_lines e h in
      let count = lines_counted image 0 (line_count image) in
      ordered_lines_lem e h n
      ∙ lines_agree limit 0 0 (lines_of image) orders (put_right start) (lines_accepted image e) (omega arith) (along d) (rw plain at l)
      ∙ sym plain

-- ---- demand 3

pub demand_3 : (image orders : List ℕ) (limit : ℕ) (start : Machine)
    → (check_of image).code ≡ 0
    → length start.memory ≤ 16384
    → length orders ≡ 8 * line_count image
    → AllAdmissible (lines_of image) orders start
    → (plain_run image start).report.code ≡ 0
    → (plain_run image start).report.steps ≤ limit
    → (ordered_run image orders limit start ≡ plain_run image start)
    × Every InBuffers (lines_of image) (put_right start)
    × EveryStep (lines_of image) orders (put_right start)
demand_3 image orders limit start e h n d c l =
    let done = rw (plain_lines image orders limit start e h) at c in
    let count = lines_counted image 0 (line_count image) in (
      runs_agree image orders limit start e h n d (omega (arith, enough_done (plain_run image start) c)),
      every_buffer_kept image (put_right start) e done,
      every_step 0 0 (lines_of image) orders (put_right start) (lines_accepted image e) (omega arith) (along image orders limit start d) done,
    )

-- the same of the calls, by their contracts: the reports, states and memories that they leave
pub calls_agree : (image orders : List ℕ) (limit : ℕ) (state : State) (memory : List ℕ) (plain ordered : Ran)
    (plain_memory ordered_memory : List ℕ)
    → ended plain.report (machine plain.state plain_memory) ≡ plain_run image (machine state memory)
    → ended ordered.report (machine ordered.state ordered_memory)
    ≡ ordered_run image orders limit (machine state memory)
    → (check_of image).code ≡ 0
    → length memory ≤ 16384
    → length orders ≡ 8 * line_count image
    → AllAdmissible (lines_of image) orders (machine state memory)
    → plain.report.code ≡ 0
    → plain.report.steps ≤ limit
    → (ordered ≡ plain) × (ordered_memory ≡ plain_memory)
calls_agree image orders limit state memory plain ordered plain_memory ordered_memory p o e h n d c l =
    answered_alike ordered plain ordered_memory plain_memory
    (o ∙ (demand_3 image orders limit (machine state memory) e h n d (rw (← p) c) (rw (← p) l)).0 ∙ sym p)

-- also where a line is refused: with a limit above the plain run's steps both runs end alike, whatever the code
pub refused_alike : (image orders : List ℕ) (limit : ℕ) (start : Machine)
    → (check_of image).code ≡ 0
    → length start.memory ≤ 16384
    → length orders ≡ 8 * line_count image
    → AllAdmissible (lines_of image) orders start
    → (plain_run image start).report.steps < limit
    → ordered_run image orders limit start ≡ plain_run image start
refused_alike image orders limit start e h n d l =
    runs_agree image orders limit start e h n d (omega (arith, enough_above (plain_run image start)))

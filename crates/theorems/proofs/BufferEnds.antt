-- Document 02, Note 2: each run returns every end equal to the sum of its base and length, whatever ends it was given and whether
-- it is refused or not; starts that differ in their ends alone are answered alike; and a run that is refused before its lines
-- returns what it was given, with its ends put right and nothing else changed.
use mathlib.Core.Path.{◌≡◌, ap, sym, ◌∙◌, subst}
use mathlib.Core.List.{List, [], ◌∷◌}
use Prim.Native.Nat.{ℕ, suc, ◌+◌, ◌-◌, ◌*◌, ◌<◌}
use lib.ListN.{length, drop, get_or}
use lib.Dec.{ltb, leb, eqb}
use native.Mathlib.Omega.{arith}
use borrow.Author.Tests.{eq-eqb, ne_eqb}
use Rattle.slots.specs.Places.{File}
use Rattle.slots.proofs.Picks.{picked}
use Rattle.image.specs.Directory.{line_count}
use Rattle.image.specs.Check.{lines_of}
use Rattle.machine.specs.Machine.{Machine, machine, view, EndsTrue, put_right}
use Rattle.machine.specs.declared.state.State.{State}
use Rattle.machine.proofs.Ends.{right_true, right_view, right_memory, right_alike, sums_at}
use Rattle.execution.specs.PlainLine.{plain_line, refusal_of, line_of}
use Rattle.execution.proofs.EndsKept.{plain_true}
use Rattle.steps.specs.Steps.{acts_of, in_place}
use Rattle.steps.proofs.StepsTrue.{steps_true}
use Rattle.stepping.specs.OrderedLine.{made_of, ordered_refusal}
use Rattle.runs.specs.Plain.{End, ended, report, line_steps, plain_from, before_lines, if_accepted, plain_run_on, plain_run}
use Rattle.runs.specs.declared.report.Report.{Report}
use Rattle.runs.specs.declared.report.Ran.{Ran}
use Rattle.theorems.proofs.Answers.{answered_alike}
use Rattle.ordered.specs.Ordered.{order_bytes, order_of, ordered_from, ordered_run_on, ordered_run}

-- ---- every end is the sum of its base and length

abbrev pub EndsAsSums : End → Type 0
EndsAsSums e = EndsTrue e.machine.state

lines_true : (lines steps : ℕ) (ws : List (List ℕ)) (m : Machine) → EndsTrue m.state → EndsAsSums (plain_from lines steps ws m)
unfolding plain_from
lines_true lines steps [] m t = t
lines_true lines steps (w ∷ ws) m t =
    picked EndsAsSums (eqb (refusal_of (line_of w) m).code 0) _ _
    (λ _. lines_true (suc lines) (steps + line_steps (line_of w)) ws (plain_line (line_of w) m) (plain_true (line_of w) m t)) (λ _. t)

ordered_lines_true : (limit lines steps : ℕ) (ws : List (List ℕ)) (orders : List ℕ) (m : Machine) → EndsTrue m.state
    → EndsAsSums (ordered_from limit lines steps ws orders m)
unfolding ordered_from
ordered_lines_true limit lines steps [] orders m t = t
ordered_lines_true limit lines steps (w ∷ ws) orders m t =
    let line = line_of w in
    let refusal = ordered_refusal line m (order_of orders) in
    let made = made_of (limit - steps) line (order_of orders) in
    let after = steps_true (acts_of line) made m t in
    picked EndsAsSums (leb limit steps) _ _ (λ _. t)
    (λ _. picked EndsAsSums (eqb refusal.code 0) _ _
    (λ _. picked EndsAsSums (ltb (length made) (line_steps line)) _ _ (λ _. after)
    (λ _. ordered_lines_true limit (suc lines) (steps + length made) ws (drop order_bytes orders) (in_place line made m) after))
    (λ _. t))

pub plain_ends : (image : List ℕ) (start : Machine) → EndsAsSums (plain_run image start)
unfolding plain_run plain_run_on
plain_ends image start =
    let m = put_right start in
    picked EndsAsSums (eqb (before_lines image (length m.memory)).code 0) _ _
    (λ _. lines_true 0 0 (lines_of image) m (right_true start)) (λ _. right_true start)

pub ordered_ends : (image orders : List ℕ) (limit : ℕ) (start : Machine) → EndsAsSums (ordered_run image orders limit start)
unfolding ordered_run ordered_run_on
ordered_ends image orders limit start =
    let m = put_right start in
    picked EndsAsSums (eqb (before_lines image (length m.memory)).code 0) _ _
    (λ _. picked EndsAsSums (eqb (length orders) (order_bytes * line_count image)) _ _
    (λ _. ordered_lines_true limit 0 0 (lines_of image) orders m (right_true start)) (λ _. right_true start))
    (λ _. right_true start)

-- ---- starts that differ in their ends alone

module _ (m n : Machine) (same : (f : File) → view m f ≡ view n f) where
  pub plain_alike : (image : List ℕ) → plain_run image m ≡ plain_run image n
  unfolding plain_run
  plain_alike image = ap (plain_run_on image) (right_alike m n same)

  pub ordered_alike : (image orders : List ℕ) (limit : ℕ) → ordered_run image orders limit m ≡ ordered_run image orders limit n
  unfolding ordered_run
  ordered_alike image orders limit = ap (ordered_run_on image orders limit) (right_alike m n same)

-- ---- refused before the lines: the ends are put right, and every file is as it was

-- what a run returns that is refused so
abbrev pub OnlyEnds : Report → Machine → End → Type 0
OnlyEnds r start e = (e ≡ ended r (put_right start)) × ((f : File) → view e.machine f ≡ view start f)

only_ends : (r : Report) (start : Machine) (e : End) → e ≡ ended r (put_right start) → OnlyEnds r start e
only_ends r start e q = (q, λ f. ap (λ (x : End). view x.machine f) q ∙ right_view start f)

module _ (image : List ℕ) (start : Machine) where
  abbrev pub before : Report
  before = before_lines image (length start.memory)

  refused : (lines : End) → (before.code ≡ 0 → ⊥) → if_accepted image (put_right start) lines ≡ ended before (put_right start)
  refused lines z = rw (right_memory start, ne_eqb before.code 0 z)

  accepted : (lines : End) → before.code ≡ 0 → if_accepted image (put_right start) lines ≡ lines
  accepted lines z = rw (right_memory start, eq-eqb before.code 0 z)

  -- 1 to 7
  pub plain_refused : (before.code ≡ 0 → ⊥) → OnlyEnds before start (plain_run image start)
  unfolding plain_run plain_run_on
  plain_refused z = only_ends before start _ (refused _ z)

  module _ (orders : List ℕ) (limit : ℕ) where
    pub ordered_refused : (before.code ≡ 0 → ⊥) → OnlyEnds before start (ordered_run image orders limit start)
    unfolding ordered_run ordered_run_on
    ordered_refused z = only_ends before start _ (refused _ z)

    -- 11 of the orders' length
    pub orders_refused : before.code ≡ 0 → (length orders ≡ 8 * line_count image → ⊥)
        → OnlyEnds (report 11 0 0 0 0) start (ordered_run image orders limit start)
    unfolding ordered_run ordered_run_on
    orders_refused z d =
        only_ends (report 11 0 0 0 0) start _ (accepted _ z ∙ rw (ne_eqb (length orders) (8 * line_count image) d))

-- ---- the same of the calls, by their contracts

module _ (image : List ℕ) (state : State) (memory : List ℕ) (x : Ran) (after : List ℕ) where
  pub call_ends : ended x.report (machine x.state after) ≡ plain_run image (machine state memory) → EndsTrue x.state
  call_ends e = subst EndsAsSums (sym e) (plain_ends image (machine state memory))

  pub ordered_call_ends : (orders : List ℕ) (limit : ℕ)
      → ended x.report (machine x.state after) ≡ ordered_run image orders limit (machine state memory) → EndsTrue x.state
  ordered_call_ends orders limit e = subst EndsAsSums (sym e) (ordered_ends image orders limit (machine state memory))

-- states that differ in their ends alone
module _ (image : List ℕ) (s t : State) (memory : List ℕ) (same : (f : File) → view (machine s memory) f ≡ view (machine t memory) f)
    (x y : Ran) (after after' : List ℕ) where
  pub calls_alike : ended x.report (machine x.state after) ≡ plain_run image (machine s memory)
      → ended y.report (machine y.state after') ≡ plain_run image (machine t memory) → (x ≡ y) × (after ≡ after')
  calls_alike e f = answered_alike x y after after' (e ∙ plain_alike (machine s memory) (machine t memory) same image ∙ sym f)

  pub ordered_calls_alike : (orders : List ℕ) (limit : ℕ)
      → ended x.report (machine x.state after) ≡ ordered_run image orders limit (machine s memory)
      → ended y.report (machine y.state after') ≡ ordered_run image orders limit (machine t memory)
      → (x ≡ y) × (after ≡ after')
  ordered_calls_alike orders limit e f =
      answered_alike x y after after'
      (e ∙ ordered_alike (machine s memory) (machine t memory) same image orders limit ∙ sym f)

-- each end by itself
pub each_end : (s : State) → EndsTrue s → length s.base ≡ 8 → length s.length ≡ 8 → (i : ℕ) → i < 8
    → get_or s.end i 0 ≡ get_or s.base i 0 + get_or s.length i 0
each_end s t b l i h =
    ap (λ (es : List ℕ). get_or es i 0) t ∙ sums_at s.base s.length i (omega arith) (omega arith)

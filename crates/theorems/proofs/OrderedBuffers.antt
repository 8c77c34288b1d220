-- 01, 'Addresses', in the ordered run: every step of a circular access with a length above 0 touches only words of its own
-- buffer, by the base and length before the line; in the line that a limit stops in, too.
use mathlib.Core.Path.{◌≡◌, refl, ap}
use mathlib.Core.Bool.{Bool, true, false}
use mathlib.Core.List.{List, [], ◌∷◌, ◌++◌}
use mathlib.Core.Option.{none, some}
use Prim.Native.Nat.{ℕ, zero, suc, ◌+◌, ◌-◌, ◌*◌, ◌/◌, ◌%◌}
use native.Mathlib.Omega.{arith}
use lib.ListN.{length, drop, length-drop}
use lib.Seq.{take_all}
use lib.Dec.{eqb}
use borrow.Author.Tests.{eqb-true, eqb-false}
use Rattle.bits.specs.Pick.{pick}
use Rattle.slots.specs.Lists.{All, nth_of}
use Rattle.slots.specs.Places.{Place, file_number}
use Rattle.slots.specs.declared.slot.Slot.{Slot}
use Rattle.slots.specs.declared.conditional_slot.Conditional.{Conditional}
use Rattle.line.proofs.Accepted.{Accepted}
use Rattle.image.specs.Check.{lines_of, check_of}
use Rattle.machine.specs.Machine.{Machine}
use Rattle.machine.specs.Fetches.{values, asked, targets}
use Rattle.refusals.specs.Refusals.{fetch_slot, fetch_each}
use Rattle.execution.specs.PlainLine.{plain_line, line_of}
use Rattle.execution.specs.Touches.{memory_of}
use Rattle.steps.specs.Steps.{Act, act_of, acts_of, InLine, begun, step, in_place}
use Rattle.orders.specs.Orders.{step_bytes}
use Rattle.theorems.proofs.InPlace.{StepAsBefore, AsBefore}
use Rattle.runs.specs.Plain.{line_steps, plain_from}
use Rattle.theorems.specs.Buffers.{Buffered, InBuffer, InBuffers}
use Rattle.theorems.proofs.Buffers.{line_done, line_buffers}
use Rattle.ordered.specs.Ordered.{order_bytes, order_of}
use Rattle.stepping.specs.OrderedLine.{made_of}
use Rattle.theorems.specs.Demand.{AllAdmissible, held_stores, step_touches, StepInBuffer, StepsInBuffers, AlongOrdered, EveryStep}
use Rattle.theorems.proofs.LineOrdered.{act_in, line_ordered, line_as_before}
use Rattle.theorems.proofs.OrderVerdicts.{not_refused_ordered}
use Rattle.image.proofs.AcceptedImage.{lines_accepted}

-- ---- a part of the words that a slot touches

parts_touched : (P : Place → Type 0) (ps qs : List Place) → All P (memory_of (ps ++ qs))
    → All P (memory_of ps) × All P (memory_of qs)
parts_touched P [] qs h = (tt, h)
parts_touched P (p ∷ ps) qs h = go (eqb (file_number p.file) 8) (parts_touched P ps qs) h
  where
    go : (b : Bool) → (All P (memory_of (ps ++ qs)) → All P (memory_of ps) × All P (memory_of qs))
        → All P (pick b (p ∷ memory_of (ps ++ qs)) (memory_of (ps ++ qs)))
        → All P (pick b (p ∷ memory_of ps) (memory_of ps)) × All P (memory_of qs)
    go true rest h = ((h.0, (rest h.1).0), (rest h.1).1)
    go false rest h = rest h

-- one of the two parts
one_part : (P : Place → Type 0) (b : Bool) (ps qs : List Place) → All P (memory_of (ps ++ qs))
    → All P (memory_of (pick b ps qs))
one_part P true ps qs h = (parts_touched P ps qs h).0
one_part P false ps qs h = (parts_touched P ps qs h).1

part_buffered : (m : Machine) (b : Bool) (ps qs : List Place) (x : Slot) → Buffered m (memory_of (ps ++ qs)) x
    → Buffered m (memory_of (pick b ps qs)) x
part_buffered m b ps qs x h = λ l. one_part _ b ps qs (h l)

-- ---- a step

-- a step that does what it would do before the line touches the words that it would touch there
touches_before : (a : Act) (b : ℕ) (m : Machine) (c : InLine) → StepAsBefore (some a) b m c
    → step_touches a b c
    ≡ memory_of (pick (eqb (b % 2) 0) (asked a.asks m) (targets (a.makes (values a.asks m))))
touches_before a b m c h = go (eqb (b % 2) 0) refl
  where
    go : (t : Bool) → eqb (b % 2) 0 ≡ t
        → memory_of (pick t (asked a.asks c.machine) (held_stores a (c.holds (b / 2))))
        ≡ memory_of (pick t (asked a.asks m) (targets (a.makes (values a.asks m))))
    go true q = ap memory_of (h.0 (eqb-true (b % 2) 0 q)).0
    go false q = let odd : b % 2 ≡ 1 = omega (arith, eqb-false (b % 2) 0 q) in rw (h.1 odd)

module _ (line : List Conditional) (m : Machine) where
  -- slot s of the line, and what is known of it
  slot_found : (xs : List Conditional) (s : ℕ) (x : Conditional) → nth_of some none s xs ≡ some x
      → All (InBuffer m) (fetch_each line m xs) → (act_in line xs s ≡ some (act_of line x)) × InBuffer m (fetch_slot line m x)
  slot_found [] s x e h = let z : ◌≡◌ {A = ℕ} 0 1 = cc in absurd (omega arith)
  slot_found (y ∷ ys) zero x e h = let same : y ≡ x = cc in rw (← same) (refl, h.0)
  slot_found (y ∷ ys) (suc s) x e h = slot_found ys s x e h.1

  step_inside : InBuffers line m → (b : ℕ) (c : InLine) → StepAsBefore (acts_of line (b / 2)) b m c → StepInBuffer line m b c
  step_inside kept b c h x e =
      let (found, inside) = slot_found line (b / 2) x e kept in
      rw (touches_before (act_of line x) b m c (rw found at h))
      (part_buffered m (eqb (b % 2) 0) (asked (act_of line x).asks m) _ x.slot inside)

  steps_inside : InBuffers line m → (bs : List ℕ) (c : InLine) → AsBefore (acts_of line) m bs c → StepsInBuffers line m bs c
  steps_inside kept [] c h = tt
  steps_inside kept (b ∷ bs) c h =
      (step_inside kept b c h.0, steps_inside kept bs (step (acts_of line) b c) h.1)

-- ---- the run

lines_inside : (limit steps : ℕ) (ws : List (List ℕ)) (orders : List ℕ) (m : Machine) → All Accepted ws
    → AlongOrdered limit steps ws orders m
lines_inside limit steps [] orders m a = tt
lines_inside limit steps (w ∷ ws) orders m a = λ _ e.
    let (passed, admitted) = not_refused_ordered (line_of w) m (order_of orders) e in
    let made = made_of (limit - steps) (line_of w) (order_of orders) in (
      steps_inside (line_of w) m (line_buffers w a.0 m passed) made (begun m)
          (line_as_before w a.0 m passed (order_of orders) admitted (limit - steps)),
      λ _. lines_inside limit (steps + length made) ws (drop order_bytes orders) (in_place (line_of w) made m) a.1,
    )

pub ordered_buffers_kept : (image orders : List ℕ) (limit : ℕ) (m : Machine) → (check_of image).code ≡ 0
    → AlongOrdered limit 0 (lines_of image) orders m
ordered_buffers_kept image orders limit m e = lines_inside limit 0 (lines_of image) orders m (lines_accepted image e)

-- where every line is done with all its steps
pub every_step : (lines steps : ℕ) (ws : List (List ℕ)) (orders : List ℕ) (m : Machine) → All Accepted ws
    → length orders ≡ 8 * length ws → AllAdmissible ws orders m → (plain_from lines steps ws m).report.code ≡ 0
    → EveryStep ws orders m
every_step lines steps [] orders m a n d z = tt
every_step lines steps (w ∷ ws) orders m a n d z =
    let (passed, done) = line_done lines steps w ws m z in
    let (admitted, others) = d passed in
    let order = order_of orders in
    let bytes = step_bytes (length (line_of w)) order in (
      steps_inside (line_of w) m (line_buffers w a.0 m passed) bytes (begun m)
          (rw (take_all (length bytes) bytes (omega arith)) at
          (line_as_before w a.0 m passed order admitted (length bytes))),
      rw (line_ordered w a.0 m passed order admitted)
          (every_step (suc lines) (steps + line_steps (line_of w)) ws (drop order_bytes orders) (plain_line (line_of w) m) a.1
          (simp length-drop (omega arith)) others done),
    )

-- The ordered run's walk over the lines by their numbers, with eight bytes of the orders each: what a line asks, and what it
-- leaves.
use mathlib.Core.Path.{◌≡◌, sym, ◌∙◌, ap}
use mathlib.Core.List.{List}
use Prim.Native.Nat.{ℕ, ◌+◌, ◌-◌, ◌*◌, ◌/◌, ◌≤◌, ◌<◌, min}
use native.Mathlib.Nat.{add-sub_cancel_left}
use native.Mathlib.Numerals.{add-one}
use native.Mathlib.Omega.{arith}
use lib.ListN.{length, take, drop, length-take, length-drop}
use lib.Seq.{drop-drop}
use lib.Dec.{eqb}
use borrow.Author.Tests.{ne_eqb, lt-ltb, le-ltb, le-leb, lt-leb}
use Rattle.bits.specs.Pick.{pick}
use Rattle.slots.specs.Conditionals.{slot_words}
use Rattle.std.specs.Prelude.{Result, Ok, Err}
use Rattle.line.specs.Verdicts.{rule_code, verdict_of}
use Rattle.line.specs.declared.rules.Broken.{Broken}
use Rattle.line.proofs.RuleCodes.{some_code}
use Rattle.image.specs.Directory.{line_count}
use Rattle.image.specs.Check.{line_at, lines_from, check_of}
use Rattle.image.proofs.Walk.{lines_none, lines_next}
use Rattle.machine.specs.Machine.{Machine}
use Rattle.execution.specs.PlainLine.{line_of}
use Rattle.steps.specs.Steps.{in_place}
use Rattle.runs.specs.Plain.{ended, report, line_steps}
use Rattle.runs.proofs.Walked.{few_steps, steps_are}
use Rattle.ordered.specs.Ordered.{ordered_from}
use Rattle.stepping.specs.OrderedLine.{made_of, ordered_refusal, ordered_end}

-- ---- the orders from line i's on

order_lent : (os : List ℕ) (i : ℕ) → take (8 * i + 8 - 8 * i) (drop (8 * i) os) ≡ take 8 (drop (8 * i) os)
order_lent os i = rw (add-sub_cancel_left (8 * i) 8)

order_next : (os : List ℕ) (i : ℕ) → drop 8 (drop (8 * i) os) ≡ drop (8 * (i + 1)) os
order_next os i = let e : 8 * i + 8 ≡ 8 * (i + 1) = omega arith in drop-drop 8 (8 * i) os ∙ ap (λ (k : ℕ). drop k os) e

bytes_taken : (i n : ℕ) (bs : List ℕ) → n ≤ 8 → 8 ≤ length bs → length (take i (take n (take 8 bs))) ≡ min i n
bytes_taken i n bs h k = simp length-take (omega arith)

module _ (limit : ℕ) (w os : List ℕ) (i n : ℕ) (s : ℕ) (m : Machine) where
  pub no_line_left : n ≤ i → ended (report 0 0 0 i s) m ≡ ordered_from limit i s (lines_from w i (n - i)) (drop (8 * i) os) m
  unfolding ordered_from
  no_line_left h = rw (lines_none w i n h)

  module _ (h : i < n) where
    pub limit_spent : limit ≤ s
        → ended (report 0 0 0 i s) m ≡ ordered_from limit i s (lines_from w i (n - i)) (drop (8 * i) os) m
    unfolding ordered_from
    limit_spent z = rw (lines_next w i n h, le-leb limit s z)

    -- the line's words and its order
    abbrev words : List ℕ
    words = line_at w i

    abbrev order : List ℕ
    order = take 8 (drop (8 * i) os)

    module _ (ok : (check_of w).code ≡ 0) (c : n ≡ line_count w) (room : length os ≡ 8 * line_count w) (fresh : s < limit)
        {line : List ℕ} (l : line ≡ words) (e : Machine)
        (f : e ≡ ordered_end (line_of line) (limit - s) m (take (8 * i + 8 - 8 * i) (drop (8 * i) os)))
        (r : Result (Unit {0}) Broken)
        (t : verdict_of r ≡ ordered_refusal (line_of line) m (take (8 * i + 8 - 8 * i) (drop (8 * i) os))) where
      told : {u : Result (Unit {0}) Broken} → r ≡ u → verdict_of u ≡ ordered_refusal (line_of words) m order
      told q = sym (ap verdict_of q) ∙ (rw (l, order_lent os i) at t)

      abbrev made : List ℕ
      made = made_of (limit - s) (line_of words) order

      size : line_steps (line_of words) ≡ 2 * (length line / slot_words)
      size = steps_are w i n ok c h l

      made_size : length made ≡ min (limit - s) (2 * (length line / slot_words))
      made_size =
          bytes_taken (limit - s) (line_steps (line_of words)) (drop (8 * i) os) (omega (arith, size, few_steps w i n ok c h l))
          (simp length-drop (omega arith))
          ∙ ap (min (limit - s)) size

      found : e ≡ pick (eqb (ordered_refusal (line_of words) m order).code 0) (in_place (line_of words) made m) m
      unfolding ordered_end
      found = rw (l, order_lent os i) at f

      pub order_refused : {b : Broken} → r ≡ Err b
          → ended (report (rule_code b.rule) i b.slot i s) e ≡ ordered_from limit i s (lines_from w i (n - i)) (drop (8 * i) os) m
      unfolding ordered_from
      order_refused {b} q =
          let kept : e ≡ m = found ∙ rw (← told q, ne_eqb (rule_code b.rule) 0 (some_code b.rule)) in
          rw (lines_next w i n h, lt-leb limit s fresh, kept) (rw (← told q, ne_eqb (rule_code b.rule) 0 (some_code b.rule)))

      module _ {x : Unit {0}} (q : r ≡ Ok x) where
        left : e ≡ in_place (line_of words) made m
        left = found ∙ rw (← told q)

        pub stopped_inside : limit - s < 2 * (length line / slot_words)
            → ended (report 0 0 0 i limit) e ≡ ordered_from limit i s (lines_from w i (n - i)) (drop (8 * i) os) m
        unfolding ordered_from
        stopped_inside j =
            let short : length made ≡ limit - s = made_size ∙ omega arith in
            let all : s + length made ≡ limit = omega arith in
            rw (lines_next w i n h, lt-leb limit s fresh, left)
            (rw (← told q, lt-ltb (length made) (line_steps (line_of words)) (omega (arith, size)), all))

        pub line_stepped : 2 * (length line / slot_words) ≤ limit - s
            → ordered_from limit i s (lines_from w i (n - i)) (drop (8 * i) os) m
            ≡ ordered_from limit (i + 1) (s + 2 * (length line / slot_words)) (lines_from w (i + 1) (n - (i + 1)))
            (drop (8 * (i + 1)) os) e
        unfolding ordered_from
        line_stepped j =
            let long : length made ≡ 2 * (length line / slot_words) = made_size ∙ omega arith in
            rw (lines_next w i n h, ← order_next os i, lt-leb limit s fresh, left, add-one i)
            (rw (← told q, le-ltb (length made) (line_steps (line_of words)) (omega (arith, size)), long))

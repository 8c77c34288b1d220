-- Machines with equal files differ in their ends alone, and so in nothing that a slot reads: their lines are refused alike, the same
-- orders are admissible, and a line leaves machines with equal files.
use mathlib.Core.Path.{◌≡◌, refl, sym, ap, ap₂, ◌∙◌, fun_ext}
use mathlib.Core.Bool.{Bool, not, ◌&&◌, ◌||◌}
use mathlib.Core.List.{List, [], ◌∷◌}
use mathlib.Core.Option.{Option, none, some}
use Prim.Native.Nat.{ℕ, ◌+◌, ◌*◌}
use lib.ListN.{length, drop, set}
use lib.Dec.{eqb}
use Rattle.bits.specs.Pick.{pick}
use Rattle.slots.specs.Lists.{below}
use Rattle.slots.specs.Places.{File, Memory, Place, meet}
use Rattle.slots.specs.Stores.{slot_in}
use Rattle.slots.specs.declared.conditional_slot.Conditional.{Conditional}
use Rattle.machine.specs.Machine.{Machine, view, same_file, get, put}
use Rattle.machine.specs.Fetches.{Ask, values, asked, Write, puts, targets}
use Rattle.machine.proofs.Places.{view_put}
use Rattle.machine.proofs.Fetches.{Agree, agree_values, agree_asked}
use Rattle.conditional.specs.LineSlots.{fetch_in}
use Rattle.conditional.specs.declared.line_slot.Fetched.{Fetched}
use Rattle.refusals.specs.Refusals.{fetch_each, fetch_line, run_verdict}
use Rattle.execution.specs.PlainLine.{stores_of, plain_line, refusal_of, line_of}
use Rattle.steps.specs.Steps.{Act, acts_of}
use Rattle.orders.specs.Orders.{reads_by, stores_by, waits, precedes, once, unused, in_sequence, step_bytes, admissible_by, admissible}
use Rattle.ordered.specs.Ordered.{order_bytes, order_of}
use Rattle.theorems.specs.Demand.{AllAdmissible}

abbrev pub SameFiles : Machine → Machine → Type 0
SameFiles m n = (f : File) → view m f ≡ view n f

puts_same : (ws : List Write) (m n : Machine) → SameFiles m n → SameFiles (puts ws m) (puts ws n)
unfolding puts
puts_same [] m n same = same
puts_same (w ∷ ws) m n same = puts_same ws (put m w.to w.value) (put n w.to w.value) (λ f. stored f)
  where
    stored : (f : File) → view (put m w.to w.value) f ≡ view (put n w.to w.value) f
    stored f =
        view_put m w.to w.value f
        ∙ ap (λ (l : List ℕ). pick (same_file w.to.file f) (set l w.to.index w.value) l) (same f)
        ∙ sym (view_put n w.to w.value f)

module _ (m n : Machine) (same : SameFiles m n) where
  get_same : (p : Place) → get m p ≡ get n p
  unfolding get
  get_same p = rw (same p.file)

  agree_all : (ps : List Place) → Agree ps m n
  agree_all [] = tt
  agree_all (p ∷ ps) = (get_same p, agree_all ps)

  values_same : (t : Ask) → values t m ≡ values t n
  values_same t = agree_values t m n (agree_all (asked t m))

  asked_same : (t : Ask) → asked t m ≡ asked t n
  asked_same t = agree_asked t m n (agree_all (asked t m))

  -- ---- a line

  each_same : (line xs : List Conditional) → fetch_each line m xs ≡ fetch_each line n xs
  each_same line [] = refl
  each_same line (x ∷ xs) =
      ap₂ (λ (v : List ℕ) (r : List Fetched). record { slot = slot_in line x; held = v } ∷ r)
      (values_same (fetch_in (slot_in line x))) (each_same line xs)

  refusal_same : (line : List Conditional) → refusal_of line m ≡ refusal_of line n
  unfolding refusal_of
  refusal_same line = ap₂ (λ (w : List ℕ) (xs : List Fetched). run_verdict (length w) xs) (same Memory) (each_same line line)

  plain_same : (line : List Conditional) → SameFiles (plain_line line m) (plain_line line n)
  unfolding plain_line
  plain_same line f =
      ap (λ (xs : List Fetched). view (puts (stores_of xs) m) f) (each_same line line)
      ∙ puts_same (stores_of (fetch_line line n)) m n same f

  -- ---- its order

  reads_same : (a : Option Act) → reads_by a m ≡ reads_by a n
  reads_same none = refl
  reads_same (some a) = asked_same a.asks

  stores_same : (a : Option Act) → stores_by a m ≡ stores_by a n
  stores_same none = refl
  stores_same (some a) = ap (λ (v : List ℕ). targets (a.makes v)) (values_same a.asks)

  waits_same : (acts : ℕ → Option Act) → waits acts m ≡ waits acts n
  unfolding waits
  waits_same acts =
      fun_ext (λ s. fun_ext (λ t. ap₂ (λ (ps qs : List Place). eqb s t || meet ps qs) (reads_same (acts s)) (stores_same (acts t))))

  admissible_same : (line : List Conditional) (order : List ℕ) → admissible line m order ≡ admissible line n order
  unfolding admissible_by in_sequence
  admissible_same line order =
      let k = length line in
      let bs = step_bytes k order in
      ap
      (λ (w : ℕ → ℕ → Bool).
      once k bs && unused (drop (2 * k) order)
      && below k (λ s. below k (λ t. not (w s t) || precedes (2 * s) (2 * t + 1) bs)))
      (waits_same (acts_of line))

-- the same orders are admissible along their plain runs
pub admissible_along : (ws : List (List ℕ)) (orders : List ℕ) (m n : Machine) → SameFiles m n → AllAdmissible ws orders m
    → AllAdmissible ws orders n
admissible_along [] orders m n same d = tt
admissible_along (w ∷ ws) orders m n same d =
    λ passed.
    let line = line_of w in
    let (admitted, others) = d (ap (λ v. v.code) (refusal_same m n same line) ∙ passed) in (
      sym (admissible_same m n same line (order_of orders)) ∙ admitted,
      admissible_along ws (drop order_bytes orders) (plain_line line m) (plain_line line n) (plain_same m n same line) others,
    )

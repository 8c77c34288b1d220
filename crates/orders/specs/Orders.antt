-- 01, 'Runs and orders': an order is admissible when its first bytes, two a slot, hold each step of the line exactly once,
-- the rest are 255, a fetch precedes its own store, and a slot's fetch precedes any other slot's store of a place it reads.
use Rattle.std.specs.Prelude.{ℕ, suc, ◌+◌, ◌*◌, Bool, not, ◌&&◌, ◌||◌, List, [], ◌∷◌, length, take, drop, eqb, ltb}
use Rattle.std.specs.List.{list_all}
use Rattle.std.proofs.Math.Option.{Option, none, some}
use Rattle.bits.specs.Pick.{pick}
use Rattle.slots.specs.Lists.{count, below}
use Rattle.slots.specs.Places.{Place, meet}
use Rattle.slots.specs.declared.conditional_slot.Conditional.{Conditional}
use Rattle.machine.specs.Machine.{Machine}
use Rattle.machine.specs.Fetches.{values, asked, targets}
use Rattle.steps.specs.Steps.{Act, acts_of}

-- ---- which places a slot reads and stores, judged by the machine before its line

abbrev pub reads_by : Option Act → Machine → List Place
reads_by none m = []
reads_by (some a) m = asked a.asks m

abbrev pub stores_by : Option Act → Machine → List Place
stores_by none m = []
stores_by (some a) m = targets (a.makes (values a.asks m))

-- slot s's fetch has to precede slot t's store: its own, and any other's of a place that s reads
unfoldable pub waits : (ℕ → Option Act) → Machine → ℕ → ℕ → Bool
waits acts m s t = eqb s t || meet (reads_by (acts s) m) (stores_by (acts t) m)

-- ---- sequences of bytes

-- how many bytes stand before the first b; all of them where there is none
abbrev pub position : ℕ → List ℕ → ℕ
position b [] = 0
position b (x ∷ xs) = pick (eqb x b) 0 (suc (position b xs))

unfoldable pub precedes : ℕ → ℕ → List ℕ → Bool
precedes a b bs = ltb (position a bs) (position b bs)

-- ---- the order of a line of n slots

-- each step of the line, 0 to 2n-1, exactly once
unfoldable pub once : ℕ → List ℕ → Bool
once n bs = below (2 * n) (λ b. eqb (count (λ x. eqb x b) bs) 1)

-- the rest are 255
unfoldable pub unused : List ℕ → Bool
unused bs = list_all (λ b. eqb b 255) bs

-- each fetch precedes the stores that wait for it
unfoldable pub in_sequence : (ℕ → Option Act) → ℕ → Machine → List ℕ → Bool
in_sequence acts n m bs = below n (λ s. below n (λ t. not (waits acts m s t) || precedes (2 * s) (2 * t + 1) bs))

-- the bytes of its steps: the first, two a slot
abbrev pub step_bytes : ℕ → List ℕ → List ℕ
step_bytes n order = take (2 * n) order

unfoldable pub admissible_by : (ℕ → Option Act) → ℕ → Machine → List ℕ → Bool
admissible_by acts n m order =
    once n (step_bytes n order) && unused (drop (2 * n) order) && in_sequence acts n m (step_bytes n order)

abbrev pub admissible : List Conditional → Machine → List ℕ → Bool
admissible line m order = admissible_by (acts_of line) (length line) m order

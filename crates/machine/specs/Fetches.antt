-- 01, 'Runs and orders': a slot's fetch and store as separate steps. A fetch is a tree of questions: each asks one place and
-- goes on by the answer, so that the places that a slot reads are those that its fetch asks, also where one is found by
-- another's contents. A store is a list of places with their values.
use Rattle.std.specs.Prelude.{ℕ, List, [], ◌∷◌, Bool}
use Rattle.bits.specs.Pick.{pick}
use Rattle.slots.specs.Places.{Place}
use Rattle.machine.specs.Machine.{Machine, get, put}

-- ---- fetch

pub data Ask : Type 0 where
  done : List ℕ → Ask
  ask : Place → (ℕ → Ask) → Ask

-- what the slot holds after its fetch
unfoldable pub values : Ask → Machine → List ℕ
values (done vs) m = vs
values (ask p k) m = values (k (get m p)) m

-- the places that it reads
unfoldable pub asked : Ask → Machine → List Place
asked (done vs) m = []
asked (ask p k) m = p ∷ asked (k (get m p)) m

-- all places of a list, one after another
unfoldable pub asks : List Place → (List ℕ → Ask) → Ask
asks [] k = k []
asks (p ∷ ps) k = ask p (λ v. asks ps (λ vs. k (v ∷ vs)))

-- a fetch that holds what f makes of another's words
unfoldable pub holding : (List ℕ → List ℕ) → Ask → Ask
holding f (done vs) = done (f vs)
holding f (ask p k) = ask p (λ v. holding f (k v))

-- places that are read under a condition
abbrev pub when : Bool → List Place → List Place
when used ps = pick used ps []

-- ---- store

pub record Write : Type 0 where
  pub to : Place
  pub value : ℕ

-- values into places, one after another
unfoldable pub assign : List Place → List ℕ → List Write
assign [] vs = []
assign (p ∷ ps) [] = []
assign (p ∷ ps) (v ∷ vs) = record { to = p; value = v } ∷ assign ps vs

unfoldable pub puts : List Write → Machine → Machine
puts [] m = m
puts (w ∷ ws) m = puts ws (put m w.to w.value)

-- the places that it stores
unfoldable pub targets : List Write → List Place
targets [] = []
targets (w ∷ ws) = w.to ∷ targets ws

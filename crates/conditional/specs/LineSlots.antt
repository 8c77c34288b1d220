-- Document 02, Note 5: a slot in its line. Its condition is around the fetch and the store of its family, so that the places that it
-- reads are still those that its fetch asks.
use Rattle.std.specs.Prelude.{ℕ, List, [], ◌∷◌, Bool, eqb}
use Rattle.slots.specs.declared.conditional_slot.LineSlot.{LineSlot}
use Rattle.bits.specs.Pick.{pick}
use Rattle.slots.specs.declared.slot.Slot.{Slot}
use Rattle.machine.specs.Fetches.{Ask, asks, holding, Write}
use Rattle.machine.specs.SlotConditions.{condition_places, condition_met}
use Rattle.instructions.specs.Held.{word, hold}
use Rattle.instructions.specs.Fetching.{fetch_of}
use Rattle.instructions.specs.Storing.{store_of}

-- ---- what a slot holds beside its family's words: whether its condition holds, and whether the THR pair that it shifts is loaded

abbrev pub live : List ℕ → Bool
live v = eqb (word 14 v) 1

abbrev pub loaded : List ℕ → Bool
loaded v = eqb (word 15 v) 1

-- a live slot's words: the fourteen of its family, and these two
abbrev pub live_words : Bool → List ℕ → List ℕ
live_words is_loaded v =
    word 0 v ∷ word 1 v ∷ word 2 v ∷ word 3 v ∷ word 4 v ∷ word 5 v ∷ word 6 v ∷ word 7 v ∷ word 8 v ∷ word 9 v
    ∷ word 10 v ∷ word 11 v ∷ word 12 v ∷ word 13 v ∷ 1 ∷ pick is_loaded 1 0 ∷ []

-- ---- fetch and store

-- a live slot: whether the THR pair that it shifts is loaded, by the condition of the load, which is asked whether it holds or fails
-- (an unconditional load asks nothing); then its family's own questions
unfoldable pub fetch_live : LineSlot → Ask
fetch_live x =
    asks (condition_places x.load) λ g.
    let is_loaded = condition_met x.load (word 0 g) in
    holding (live_words is_loaded) (fetch_of is_loaded x.slot)

-- the condition first; a slot whose condition fails reads nothing else, and holds zeros
unfoldable pub fetch_in : LineSlot → Ask
fetch_in x =
    asks (condition_places x.condition) λ g.
    pick (condition_met x.condition (word 0 g)) (fetch_live x) (hold [])

-- a slot whose condition failed stores nothing
unfoldable pub store_in : Slot → List ℕ → List Write
store_in x v = pick (live v) (store_of (loaded v) x v) []

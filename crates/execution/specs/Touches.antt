-- 01, 'Addresses': the memory words that a slot touches.
use Rattle.std.specs.Prelude.{List, [], ◌∷◌, ◌++◌}
use Rattle.bits.specs.Pick.{pick}
use Rattle.slots.specs.Places.{Memory, Place}
use Rattle.machine.specs.Machine.{Machine, same_file}
use Rattle.machine.specs.Fetches.{asked, targets}
use Rattle.conditional.specs.LineSlots.{fetch_in, store_in}
use Rattle.conditional.specs.declared.line_slot.Fetched.{Fetched}

-- the memory words among some places
abbrev pub memory_of : List Place → List Place
memory_of [] = []
memory_of (p ∷ ps) = pick (same_file p.file Memory) (p ∷ memory_of ps) (memory_of ps)

-- those that a slot fetched on m asks, and those that it stores
abbrev pub touched : Machine → Fetched → List Place
touched m x = memory_of (asked (fetch_in x.slot) m ++ targets (store_in x.slot.slot x.held))

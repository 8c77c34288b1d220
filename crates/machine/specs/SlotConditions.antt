-- Document 02, Note 5: the condition of a slot, 0 always or a condition number plus 1. It reads its IALU's flag group, which is one
-- place.
use Rattle.std.specs.Prelude.{ℕ, ◌+◌, ◌-◌, ◌/◌, List, Bool, true, false, not, ◌&&◌, eqb}
use Rattle.bits.specs.Pick.{pick}
use Rattle.slots.specs.Places.{Place, Flags, place, in_flags}
use Rattle.slots.specs.Conditionals.{condition_fits}
use Rattle.machine.specs.Machine.{Machine, get}
use Rattle.machine.specs.Fetches.{when}
use Rattle.machine.specs.Conditions.{holds_in}

-- its IALU: 0 J, 1 K
abbrev pub condition_ialu : ℕ → ℕ
condition_ialu c = (c - 1) / 6

-- the flag group that it reads
abbrev pub condition_places : ℕ → List Place
condition_places c = when (not (eqb c 0) && condition_fits c) (in_flags 6 (condition_ialu c))

-- whether it holds, by the word of that group
unfoldable pub condition_met : ℕ → ℕ → Bool
condition_met c group = pick (eqb c 0) true (pick (condition_fits c) (holds_in (c - 1) group) false)

-- and on a machine
unfoldable pub condition_on : ℕ → Machine → Bool
condition_on c m = condition_met c (get m (place Flags (6 + condition_ialu c)))

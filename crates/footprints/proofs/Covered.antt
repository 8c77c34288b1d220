-- Of two slots that were read, the footprints meet exactly where the first reads a place that the second stores.
use mathlib.Core.Path.{◌≡◌}
use mathlib.Core.List.{List}
use Prim.Native.Nat.{ℕ}
use Rattle.slots.specs.Places.{meet}
use Rattle.slots.specs.declared.conditional_slot.LineSlot.{LineSlot}
use Rattle.slots.specs.declared.slot.Slot.{Slot}
use Rattle.slots.proofs.Valid.{Valid}
use Rattle.machine.specs.Machine.{Machine}
use Rattle.machine.specs.Fetches.{values, asked, targets}
use Rattle.conditional.specs.LineSlots.{fetch_in, store_in}
use Rattle.footprints.specs.Footprints.{footprints_meet, reads_in, stores_in}
use Rattle.footprints.proofs.Parts.{covers_meet}
use Rattle.footprints.proofs.LineSlots.{reads_covered, stores_covered}

-- w: the words that the second holds
pub reads_meet : (m : Machine) (x : LineSlot) (y : Slot) (w : List ℕ) → Valid x.slot → Valid y
    → footprints_meet (reads_in x (values (fetch_in x) m)) (stores_in y w) ≡ meet (asked (fetch_in x) m) (targets (store_in y w))
reads_meet m x y w hx hy = covers_meet (reads_covered m x hx) (stores_covered y w hy)

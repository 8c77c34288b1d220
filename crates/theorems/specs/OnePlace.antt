-- Document 02, Note 6: a block's data alignment buffer counts as one register place.
use Rattle.std.specs.Prelude.{◌/◌, ◌%◌, List, [], ◌∷◌, eqb}
use Rattle.bits.specs.Pick.{pick}
use Rattle.slots.specs.Places.{Place, Dab, place}
use Rattle.machine.specs.Machine.{same_file}

-- a list of places with each buffer as one of them, by its block, where its first word stands; every other place as it is
abbrev pub gathered : List Place → List Place
gathered [] = []
gathered (p ∷ ps) =
    pick (same_file p.file Dab) (pick (eqb (p.index % 4) 0) (place Dab (p.index / 4) ∷ gathered ps) (gathered ps))
    (p ∷ gathered ps)

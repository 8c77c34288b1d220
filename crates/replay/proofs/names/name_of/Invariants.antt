use mathlib.Core.Path.{◌≡◌}
use lib.ListN.{drop}
use Rattle.replay.specs.Names.{places, name_from, name_of}
use Rattle.replay.proofs.names.name_of.Given as goal

-- what is left of the table gives the place its name as the whole does
abbrev pub invariant-loop-row : goal.invariant-loop-row
invariant-loop-row l = name_of l.at ≡ name_from l.row (drop l.row places) l.place

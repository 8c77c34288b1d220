use Rattle.std.proofs.Common.{◌≡◌}
use Rattle.std.specs.List.{fold}
use Rattle.text.specs.Parts.{left}
use Rattle.published.specs.Tally.{taken, tally_of}
use Rattle.published.proofs.tally.run_table.Given as goal

abbrev pub invariant-loop-row : goal.invariant-loop-row
invariant-loop-row g l = tally_of l.table ≡ fold taken l.tally (left l.row-iterator)

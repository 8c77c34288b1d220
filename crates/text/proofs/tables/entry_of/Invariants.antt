use Rattle.std.proofs.Common.{◌≡◌, ◌/◌, length}
use Rattle.text.specs.Tables.{entry_of}
use Rattle.text.proofs.Scans.{entries}
use Rattle.text.proofs.tables.entry_of.Given as goal

abbrev pub invariant-loop-i : goal.invariant-loop-i
invariant-loop-i l = entry_of l.table l.word ≡ entries l.table l.word (length l.table / 8) l.i

use borrow.Author.Rules.{rules}
use Prim.Native.Nat.{◌<◌}
use mathlib.Core.Path.{sym}
use native.Mathlib.Omega.{arith}
use Rattle.clu.specs.Correction.{correction, rows, entry_in}
use Rattle.bits.proofs.Table.{entry}
use Rattle.clu.proofs.Rows.{correction_past}
use Rattle.clu.proofs.correction.correction.Goals as goal

pub returns-then-d-lt256 : goal.returns-then-d-lt256
unfolding correction rows entry_in
returns-then-d-lt256 c =
    let h : c.args.d < 256 = search rules in
    rw (entry correction 256)

pub returns-else-d-lt256 : goal.returns-else-d-lt256
returns-else-d-lt256 c = sym (correction_past c.args.d (omega arith))

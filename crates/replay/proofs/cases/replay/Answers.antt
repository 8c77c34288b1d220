-- No more cases differ than were replayed, and no more were replayed than there are.
use Rattle.std.proofs.Common.{arith}
use Rattle.replay.proofs.Totals.{in_bounds}
use Rattle.replay.proofs.cases.replay.Goals as goal

pub returns-in-Err-Failed : goal.returns-in-Err-Failed
returns-in-Err-Failed g c = in_bounds _ _ _ _ c.total_of.ensures (omega arith) (omega arith)

pub returns-in-Err : goal.returns-in-Err
returns-in-Err g c = in_bounds _ _ _ _ c.total_of-in-Err.ensures (omega arith) (omega arith)

pub returns : goal.returns
returns g c = in_bounds _ _ _ _ c.total_of-2.ensures (omega arith) (omega arith)

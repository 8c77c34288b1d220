use mathlib.Core.Path.{sym}
use native.Mathlib.Omega.{arith}
use Rattle.machine.proofs.Spans.{past_sum}
use Rattle.instructions.proofs.positions.after.Goals as goal

pub returns : goal.returns
returns c = (sym (past_sum _ _), omega arith)

use Prim.Native.Nat.{ℕ, ◌<◌}
use lib.Signed.{◌≤ℤ◌}
use Rattle.decoder.specs.Survivors.{at}
use Rattle.decoder.proofs.best_path.best_state.Given as goal

abbrev pub invariant-loop-s : goal.invariant-loop-s
invariant-loop-s l = (l.best < l.s) × ((k : ℕ) → k < l.s → at l.metrics k ≤ℤ at l.metrics l.best)

-- Every total keeps its bounds.
use mathlib.Core.Path.{◌≡◌, refl}
use mathlib.Core.Bool.{Bool, true, false}
use Prim.Native.Nat.{ℕ, ◌≤◌}
use native.Mathlib.Omega.{arith}
use Rattle.replay.specs.Cases.{total_of, Within}
use Rattle.std.specs.declared.result.Result.{Result}
use Rattle.replay.specs.declared.cases.Total.{Total}

bounded : (count replayed differing : ℕ) (failed : Bool) → differing ≤ replayed → replayed ≤ count
    → Within count (total_of count replayed differing failed)
unfolding total_of
bounded count replayed differing true h k = (k, h)
bounded count replayed differing false h k = (refl, omega arith)

pub in_bounds : (count replayed differing : ℕ) (failed : Bool) {t : Result Total Total} → t ≡ total_of count replayed differing failed
    → differing ≤ replayed → replayed ≤ count → Within count t
in_bounds count replayed differing failed e h k = rw e (bounded count replayed differing failed h k)

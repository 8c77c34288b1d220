-- What a call answers is its report and state, and the memory that it leaves: calls that end alike answer alike.
use mathlib.Core.Path.{◌≡◌, ap}
use mathlib.Core.List.{List}
use Prim.Native.Nat.{ℕ}
use Rattle.machine.specs.Machine.{machine}
use Rattle.machine.specs.declared.state.State.{State}
use Rattle.runs.specs.Plain.{End, ended}
use Rattle.runs.specs.declared.report.Report.{Report}
use Rattle.runs.specs.declared.report.Ran.{Ran}

abbrev ran : Report → State → Ran
ran r s = record { report = r; state = s }

pub answered_alike : (x y : Ran) (after after' : List ℕ)
    → ended x.report (machine x.state after) ≡ ended y.report (machine y.state after')
    → (x ≡ y) × (after ≡ after')
answered_alike x y after after' e =
    (ap (λ (z : End). ran z.report z.machine.state) e, ap (λ (z : End). z.machine.memory) e)

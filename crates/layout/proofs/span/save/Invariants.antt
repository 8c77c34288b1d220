use Rattle.std.proofs.Common.{◌≡◌, ℕ, List, take}
use Rattle.slots.specs.Places.{Memory, places}
use Rattle.machine.specs.Fetches.{assign, puts}
use Rattle.layout.specs.Layout.{machine_of}
use Rattle.layout.proofs.span.save.Given as goal

abbrev pub invariant-loop-k : goal.invariant-loop-k
invariant-loop-k l =
    (ws : List ℕ) → machine_of ws l.memory
    ≡ puts (assign (places Memory l.i l.n) (take l.k l.words)) (machine_of ws l.initial.memory)

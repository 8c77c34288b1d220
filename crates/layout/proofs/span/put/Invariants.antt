use Rattle.std.proofs.Common.{◌≡◌, ℕ, List, take}
use Rattle.slots.specs.Places.{places}
use Rattle.machine.specs.Fetches.{assign, puts}
use Rattle.layout.specs.Layout.{file_is, machine_of}
use Rattle.layout.proofs.span.put.Given as goal

abbrev pub invariant-loop-k : goal.invariant-loop-k
invariant-loop-k l =
    (mem : List ℕ) → machine_of l.files mem
    ≡ puts (assign (places (file_is l.file) l.i l.n) (take l.k l.words)) (machine_of l.initial.files mem)

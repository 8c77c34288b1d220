use mathlib.Core.Path.{◌≡◌}
use mathlib.Core.Bool.{true}
use Prim.Native.Nat.{◌<◌}
use lib.ListN.{length, get_or}
use Rattle.slots.specs.Lists.{below}
use Rattle.orders.specs.AdmissibleFetched.{pair_in_sequence}
use Rattle.orders.proofs.order.in_sequence.Given as goal

-- slot s's fetch against the stores of the slots before t
abbrev pub invariant-loop-t : goal.invariant-loop-t
invariant-loop-t l =
    record {
      here : l.s < length l.slots;
      row : below l.t (pair_in_sequence (λ b. get_or l.at b 0) l.slots l.s) ≡ true;
    }

-- the fetches of the slots before s
abbrev pub invariant-loop-s : goal.invariant-loop-s
invariant-loop-s l =
    below l.s (λ i. below (length l.slots) (pair_in_sequence (λ b. get_or l.at b 0) l.slots i)) ≡ true

use mathlib.Core.Path.{◌≡◌}
use Prim.Native.Nat.{ℕ, ◌+◌, ◌<◌}
use lib.ListN.{length, get_or, drop}
use Rattle.orders.specs.Orders.{position}
use Rattle.orders.proofs.order.positions.Given as goal

-- where the bytes from i on have each value below 8 first
abbrev pub invariant-loop-i : goal.invariant-loop-i
invariant-loop-i l =
    record {
      eight : length l.at ≡ 8;
      placed : (b : ℕ) → b < 8 → get_or l.at b 0 ≡ l.i + position b (drop l.i l.bytes);
    }

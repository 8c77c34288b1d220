-- A slot's condition, by what its fetch asks of its flag group, is the condition on the machine; and that is the condition call's.
use mathlib.Core.Path.{◌≡◌, refl}
use mathlib.Core.Bool.{Bool, true, false, not, ◌&&◌}
use Prim.Native.Nat.{ℕ, suc, ◌+◌, ◌-◌, ◌≤◌}
use native.Mathlib.Omega.{arith}
use lib.ListN.{get_or}
use lib.Dec.{eqb}
use borrow.Author.Tests.{le-leb, ne_eqb}
use Rattle.bits.specs.Pick.{pick}
use Rattle.slots.specs.Places.{Flags, place, in_flags}
use Rattle.slots.specs.Conditionals.{condition_fits, never}
use Rattle.machine.specs.Machine.{Machine, get}
use Rattle.machine.specs.Fetches.{when}
use Rattle.machine.specs.Conditions.{holds_in, holds}
use Rattle.machine.specs.SlotConditions.{condition_ialu, condition_places, condition_met, condition_on}
use Rattle.machine.proofs.Fetches.{gets}

module _ (m : Machine) where
  pub condition_asked : (c : ℕ) → condition_met c (get_or (gets m (condition_places c)) 0 0) ≡ condition_on c m
  unfolding condition_met condition_on gets
  condition_asked c = go (eqb c 0) (condition_fits c)
    where
      go : (z f : Bool)
          → pick z true (pick f (holds_in (c - 1) (get_or (gets m (when (not z && f) (in_flags 6 (condition_ialu c)))) 0 0)) false)
          ≡ pick z true (pick f (holds_in (c - 1) (get m (place Flags (6 + condition_ialu c)))) false)
      go true f = refl
      go false true = refl
      go false false = refl

  -- 0 holds always, and a load that is not there never
  pub always_on : condition_on 0 m ≡ true
  unfolding condition_met condition_on
  always_on = refl

  pub never_on : condition_on never m ≡ false
  unfolding condition_met condition_on
  never_on = refl

  -- a condition number plus 1 holds where the condition call says yes
  pub number_on : (n : ℕ) → n ≤ 11 → condition_on (suc n) m ≡ holds n m.state.flags
  unfolding condition_met condition_on holds get
  number_on n h =
      let less : suc n - 1 ≡ n = omega arith in
      rw (ne_eqb (suc n) 0 (λ e. omega arith), le-leb (suc n) 12 (omega arith), less)

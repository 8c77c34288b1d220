-- What the functions that take a slot whole answer for slots of other families.
use mathlib.Core.Path.{◌≡◌, sym, ap}
use mathlib.Core.Bool.{Bool, false}
use mathlib.Core.List.{List, []}
use Prim.Native.Nat.{ℕ}
use Rattle.slots.specs.declared.slot.Slot.{Slot}
use Rattle.slots.specs.declared.slot.Slot.TheVariants.{Despread, Access}
use Rattle.slots.proofs.Others.{NotDespread, NotAccess, not_despread, not_access}
use Rattle.machine.specs.Machine.{Machine}
use Rattle.machine.specs.Fetches.{Write, values, puts}
use Rattle.instructions.specs.Held.{held_words, padded}
use Rattle.instructions.specs.Fetching.{fetch_despread, fetch_access}
use Rattle.instructions.specs.Storing.{store_of}
use Rattle.instructions.specs.FetchedSlots.{held_by_despread, held_by_access, store_by_despread, store_by_access}

module _ (m : Machine) (x : Slot) where
  pub no_despread_held : (loaded : Bool) → NotDespread x → padded held_words [] ≡ held_by_despread loaded m x
  no_despread_held loaded h =
      sym (not_despread (padded held_words []) (λ b op t f p o. values (fetch_despread b op t f p loaded) m) x h)

  pub no_access_held : NotAccess x → padded held_words [] ≡ held_by_access m x
  no_access_held h =
      sym (not_access (padded held_words []) (λ ialu op w file n f s i. values (fetch_access ialu op w file n f s i) m) x h)

  nothing_put : (ws : List Write) → ws ≡ [] → m ≡ puts ws m
  unfolding puts
  nothing_put ws e = sym (ap (λ (us : List Write). puts us m) e)

  pub no_despread_stored : (loaded : Bool) (v : List ℕ) → NotDespread x → m ≡ puts (store_by_despread loaded v x) m
  no_despread_stored loaded v h =
      nothing_put _ (not_despread [] (λ b op t f p o. store_of loaded (Despread b op t f p o) v) x h)

  pub no_access_stored : (v : List ℕ) → NotAccess x → m ≡ puts (store_by_access v x) m
  no_access_stored v h =
      nothing_put _ (not_access [] (λ ialu op w file n f s i. store_of false (Access ialu op w file n f s i) v) x h)

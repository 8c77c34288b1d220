-- A slot in its line, by its condition on the machine: what it asks, what it then holds, and what it stores.
use mathlib.Core.Path.{◌≡◌, refl, sym, ap, ◌∙◌}
use mathlib.Core.Bool.{Bool, true, false}
use mathlib.Core.List.{List, [], ◌∷◌, ◌++◌, append-nil}
use Prim.Native.Nat.{ℕ}
use native.Mathlib.Omega.{arith}
use lib.ListN.{length, set, get_or}
use lib.Dec.{eqb}
use borrow.Author.Tests.{eq-eqb, ne_eqb}
use Rattle.bits.specs.Pick.{pick}
use Rattle.slots.specs.Places.{Place}
use Rattle.slots.specs.declared.slot.Slot.{Slot}
use Rattle.slots.specs.declared.slot.Slot.TheVariants.{Alu, Shifter, Trellis, Tmax, Despread, Transfer}
use Rattle.slots.specs.declared.slot.Slot.TheVariants.{Arith, Buffer, Access, DabLoad}
use Rattle.slots.specs.declared.conditional_slot.LineSlot.{LineSlot}
use Rattle.machine.specs.Machine.{Machine}
use Rattle.machine.specs.Fetches.{values, asked, puts}
use Rattle.machine.specs.SlotConditions.{condition_places, condition_on}
use Rattle.machine.proofs.Fetches.{values_asks, asked_asks, values_holding, asked_holding}
use Rattle.machine.proofs.SlotConditions.{condition_asked}
use Rattle.instructions.specs.Held.{word, held_words, padded, hold, end_held}
use Rattle.instructions.specs.Fetching.{fetch_of}
use Rattle.instructions.specs.Storing.{store_of}
use Rattle.conditional.specs.LineSlots.{live, loaded, live_words, fetch_live, fetch_in, store_in}
use Rattle.instructions.proofs.BufferRead.{end_held_lem}

-- zeros do for every slot
pub none_held_end : (x : Slot) → end_held x (padded held_words []) ≡ true
none_held_end (Alu b op t f s) = refl
none_held_end (Shifter b op t f s) = refl
none_held_end (Trellis b op t f s q) = refl
none_held_end (Tmax b op t f s) = refl
none_held_end (Despread b op t f p o) = refl
none_held_end (Transfer b op t f) = refl
none_held_end (Arith ialu op t f s i) = refl
none_held_end (Buffer ialu op t f) = refl
none_held_end (Access ialu op w file n f s i) = refl
none_held_end (DabLoad ialu b t f i) = refl

-- the last two of sixteen words, set
set_marks : (v : List ℕ) (k : ℕ) → length v ≡ held_words
    → set (set v 14 1) 15 k
    ≡ word 0 v ∷ word 1 v ∷ word 2 v ∷ word 3 v ∷ word 4 v ∷ word 5 v ∷ word 6 v ∷ word 7 v ∷ word 8 v ∷ word 9 v
    ∷ word 10 v ∷ word 11 v ∷ word 12 v ∷ word 13 v ∷ 1 ∷ k ∷ []
set_marks [] k h = absurd (omega arith)
set_marks (a ∷ []) k h = absurd (omega arith)
set_marks (a ∷ b ∷ []) k h = absurd (omega arith)
set_marks (a ∷ b ∷ c ∷ []) k h = absurd (omega arith)
set_marks (a ∷ b ∷ c ∷ d ∷ []) k h = absurd (omega arith)
set_marks (a ∷ b ∷ c ∷ d ∷ e ∷ []) k h = absurd (omega arith)
set_marks (a ∷ b ∷ c ∷ d ∷ e ∷ f ∷ []) k h = absurd (omega arith)
set_marks (a ∷ b ∷ c ∷ d ∷ e ∷ f ∷ g ∷ []) k h = absurd (omega arith)
set_marks (a ∷ b ∷ c ∷ d ∷ e ∷ f ∷ g ∷ i ∷ []) k h = absurd (omega arith)
set_marks (a ∷ b ∷ c ∷ d ∷ e ∷ f ∷ g ∷ i ∷ j ∷ []) k h = absurd (omega arith)
set_marks (a ∷ b ∷ c ∷ d ∷ e ∷ f ∷ g ∷ i ∷ j ∷ l ∷ []) k h = absurd (omega arith)
set_marks (a ∷ b ∷ c ∷ d ∷ e ∷ f ∷ g ∷ i ∷ j ∷ l ∷ m ∷ []) k h = absurd (omega arith)
set_marks (a ∷ b ∷ c ∷ d ∷ e ∷ f ∷ g ∷ i ∷ j ∷ l ∷ m ∷ n ∷ []) k h = absurd (omega arith)
set_marks (a ∷ b ∷ c ∷ d ∷ e ∷ f ∷ g ∷ i ∷ j ∷ l ∷ m ∷ n ∷ o ∷ []) k h = absurd (omega arith)
set_marks (a ∷ b ∷ c ∷ d ∷ e ∷ f ∷ g ∷ i ∷ j ∷ l ∷ m ∷ n ∷ o ∷ p ∷ []) k h = absurd (omega arith)
set_marks (a ∷ b ∷ c ∷ d ∷ e ∷ f ∷ g ∷ i ∷ j ∷ l ∷ m ∷ n ∷ o ∷ p ∷ q ∷ []) k h = absurd (omega arith)
set_marks (a ∷ b ∷ c ∷ d ∷ e ∷ f ∷ g ∷ i ∷ j ∷ l ∷ m ∷ n ∷ o ∷ p ∷ q ∷ r ∷ []) k h = refl
set_marks (a ∷ b ∷ c ∷ d ∷ e ∷ f ∷ g ∷ i ∷ j ∷ l ∷ m ∷ n ∷ o ∷ p ∷ q ∷ r ∷ s ∷ ss) k h = absurd (omega arith)

pub mark_read : (b : Bool) → eqb (pick b 1 0) 1 ≡ b
mark_read true = refl
mark_read false = refl

module _ (m : Machine) (x : LineSlot) where
  -- whether its condition holds, and that of the load of the pair that it shifts
  abbrev pub is_live : Bool
  is_live = condition_on x.condition m

  abbrev pub is_loaded : Bool
  is_loaded = condition_on x.load m

  -- what its family asks, and what a live slot then holds
  abbrev pub family_asks : List Place
  family_asks = asked (fetch_of is_loaded x.slot) m

  abbrev pub held_live : List ℕ
  held_live = live_words is_loaded (values (fetch_of is_loaded x.slot) m)

  values_live : values (fetch_live x) m ≡ held_live
  unfolding fetch_live
  values_live = values_asks (condition_places x.load) _ m ∙ rw (condition_asked m x.load) (values_holding _ _ m)

  asked_live : asked (fetch_live x) m ≡ condition_places x.load ++ family_asks
  unfolding fetch_live
  asked_live =
      asked_asks (condition_places x.load) _ m
      ∙ rw (condition_asked m x.load) (ap (λ (ps : List Place). condition_places x.load ++ ps) (asked_holding _ _ m))

  pub held_in : values (fetch_in x) m ≡ pick is_live held_live (padded held_words [])
  unfolding fetch_in values
  held_in = values_asks (condition_places x.condition) _ m ∙ rw (condition_asked m x.condition) (go is_live)
    where
      go : (b : Bool) → values (pick b (fetch_live x) (hold [])) m ≡ pick b held_live (padded held_words [])
      go true = values_live
      go false = refl

  -- the condition's flag group, and of a live slot the load's and its family's places
  pub asked_in : asked (fetch_in x) m
      ≡ condition_places x.condition ++ pick is_live (condition_places x.load ++ family_asks) []
  unfolding fetch_in asked
  asked_in =
      asked_asks (condition_places x.condition) _ m
      ∙ rw (condition_asked m x.condition) (ap (λ (ps : List Place). condition_places x.condition ++ ps) (go is_live))
    where
      go : (b : Bool) → asked (pick b (fetch_live x) (hold [])) m ≡ pick b (condition_places x.load ++ family_asks) []
      go true = asked_live
      go false = refl

  -- ---- live or not

  pub live_held : live (values (fetch_in x) m) ≡ is_live
  live_held = rw held_in (go is_live)
    where
      go : (b : Bool) → live (pick b held_live (padded held_words [])) ≡ b
      go true = refl
      go false = refl

  module _ (on : is_live ≡ true) where
    pub held_on : values (fetch_in x) m ≡ held_live
    held_on = held_in ∙ rw on

    pub asked_on : asked (fetch_in x) m ≡ condition_places x.condition ++ (condition_places x.load ++ family_asks)
    asked_on = asked_in ∙ rw on

    pub loaded_held : loaded (values (fetch_in x) m) ≡ is_loaded
    loaded_held = rw held_on (mark_read is_loaded)

    -- as the code puts it together
    pub fetched_on : (v : List ℕ) (l : Bool) {k : ℕ} → length v ≡ held_words → l ≡ is_loaded → v ≡ values (fetch_of l x.slot) m
        → k ≡ pick l 1 0 → set (set v 14 1) 15 k ≡ values (fetch_in x) m
    fetched_on v l {k} h e f g = set_marks v k h ∙ rw (g, f, e) (sym held_on)

    pub stored_on : store_in x.slot (values (fetch_in x) m) ≡ store_of is_loaded x.slot held_live
    unfolding store_in
    stored_on = rw (held_on, mark_read is_loaded)

  module _ (off : is_live ≡ false) where
    pub held_off : values (fetch_in x) m ≡ padded held_words []
    held_off = held_in ∙ rw off

    pub asked_off : asked (fetch_in x) m ≡ condition_places x.condition
    asked_off = asked_in ∙ rw off (append-nil (condition_places x.condition))

    pub stored_off : store_in x.slot (values (fetch_in x) m) ≡ []
    unfolding store_in
    stored_off = rw held_off

  -- ---- the end that it holds is base + length

  pub end_held_in : end_held x.slot (values (fetch_in x) m) ≡ true
  end_held_in = rw held_in (go is_live)
    where
      go : (b : Bool) → end_held x.slot (pick b held_live (padded held_words [])) ≡ true
      go true = end_held_lem is_loaded x.slot m
      go false = none_held_end x.slot

  pub fetched_end_in : {v : List ℕ} → v ≡ values (fetch_in x) m → end_held x.slot v ≡ true
  fetched_end_in e = ap (end_held x.slot) e ∙ end_held_in

-- ---- what a slot stores, by the word that says whether it is live

pub live_stores : (x : Slot) (v : List ℕ) (m : Machine) {after : Machine} → get_or v 14 0 ≡ 1
    → after ≡ puts (store_of (eqb (get_or v 15 0) 1) x v) m → after ≡ puts (store_in x v) m
unfolding store_in
live_stores x v m e p = rw (eq-eqb (get_or v 14 0) 1 e) p

pub dead_stores : (x : Slot) (v : List ℕ) (m : Machine) → (get_or v 14 0 ≡ 1 → ⊥) → m ≡ puts (store_in x v) m
unfolding store_in puts
dead_stores x v m e = rw (ne_eqb (get_or v 14 0) 1 e)

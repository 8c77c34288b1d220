-- The plain line by the numbers of its slots, and the machine after the stores of some of them: a store made last is the
-- same as made in slot order, and a fetch that reads none of the places stored sees none of the stores.
use mathlib.Core.Path.{◌≡◌, refl, ap, ap₂, ◌∙◌, sym}
use mathlib.Core.Bool.{Bool, true, false}
use mathlib.Core.Logic.{◌≢◌}
use mathlib.Core.List.{List, []}
use mathlib.Core.Option.{Option, none, some}
use Prim.Native.Nat.{ℕ, zero, suc, ◌<◌, ◌≤◌}
use native.Mathlib.Omega.{arith}
use lib.Dec.{eqb}
use borrow.Author.Tests.{eqb-true, eqb-false}
use Rattle.bits.specs.Pick.{pick}
use Rattle.slots.specs.Places.{Place, meet}
use Rattle.machine.specs.Machine.{Machine}
use Rattle.machine.specs.Fetches.{Write, values, puts, targets}
use Rattle.machine.proofs.Fetches.{Agree, agree_puts, puts_comm, agree_refl, agree_trans}
use Rattle.steps.specs.Steps.{Act}
use Rattle.orders.specs.Orders.{stores_by}

-- ---- the plain line

-- what a slot stores, judged by the machine before its line
abbrev pub writes_of : Option Act → Machine → List Write
writes_of none m = []
writes_of (some a) m = a.makes (values a.asks m)

-- the plain line: the stores of slots 0 to k - 1, in slot order, each from its fetch on m
unfoldable pub plain_by : (ℕ → Option Act) → Machine → ℕ → Machine
plain_by acts m zero = m
plain_by acts m (suc k) = puts (writes_of (acts k) m) (plain_by acts m k)

-- no place is stored by two slots of the line
unfoldable pub Apart : (ℕ → Option Act) → ℕ → Machine → Type 0
Apart acts n m = (s t : ℕ) → s < t → t < n → meet (stores_by (acts s) m) (stores_by (acts t) m) ≡ false

targets_of : (o : Option Act) (m : Machine) → targets (writes_of o m) ≡ stores_by o m
unfolding targets
targets_of none m = refl
targets_of (some a) m = refl

-- ---- the stores of some of the slots

module _ (acts : ℕ → Option Act) (m : Machine) where
  -- those of the slots 0 to k - 1 that d picks
  unfoldable pub after_some : (ℕ → Bool) → ℕ → Machine
  after_some d zero = m
  after_some d (suc k) = pick (d k) (puts (writes_of (acts k) m) (after_some d k)) (after_some d k)

  pub some_all : (d : ℕ → Bool) (k : ℕ) → ((i : ℕ) → i < k → d i ≡ true) → after_some d k ≡ plain_by acts m k
  unfolding after_some plain_by
  some_all d zero h = refl
  some_all d (suc k) h =
      rw (h k (omega arith)) (ap (puts (writes_of (acts k) m)) (some_all d k (λ i l. h i (omega arith))))

  pub some_none : (k : ℕ) → m ≡ after_some (λ _. false) k
  unfolding after_some
  some_none zero = refl
  some_none (suc k) = some_none k

  pub some_same : (d e : ℕ → Bool) (k : ℕ) → ((i : ℕ) → i < k → d i ≡ e i) → after_some d k ≡ after_some e k
  unfolding after_some
  some_same d e zero h = refl
  some_same d e (suc k) h =
      ap₂ (λ (b : Bool) (x : Machine). pick b (puts (writes_of (acts k) m) x) x) (h k (omega arith))
      (some_same d e k (λ i l. h i (omega arith)))

  -- a slot that the line does not have stores nothing, picked or not
  pub some_idle : (d : ℕ → Bool) (k s : ℕ) → acts s ≡ none → (e : ℕ → Bool) → ((i : ℕ) → i ≢ s → e i ≡ d i)
      → after_some e k ≡ after_some d k
  unfolding after_some puts
  some_idle d zero s a e h = refl
  some_idle d (suc k) s a e h = go (eqb k s) refl (some_idle d k s a e h)
    where
      either : (b : Bool) (x : Machine) → pick b (puts (writes_of (acts s) m) x) x ≡ x
      either true x = rw a
      either false x = refl

      go : (b : Bool) → eqb k s ≡ b → after_some e k ≡ after_some d k
          → pick (e k) (puts (writes_of (acts k) m) (after_some e k)) (after_some e k)
          ≡ pick (d k) (puts (writes_of (acts k) m) (after_some d k)) (after_some d k)
      go true q r = rw (eqb-true k s q) (either (e s) _ ∙ rw (← eqb-true k s q) r ∙ sym (either (d s) _))
      go false q r = rw (h k (eqb-false k s q), r)

  -- one more store of a slot that d does not pick, made last, is the same as made in slot order
  pub some_more : (n : ℕ) → Apart acts n m → (d e : ℕ → Bool) (k s : ℕ) → k ≤ n → s < k → d s ≡ false → e s ≡ true
      → ((i : ℕ) → i ≢ s → e i ≡ d i) → after_some e k ≡ puts (writes_of (acts s) m) (after_some d k)
  unfolding after_some Apart
  some_more n apart d e zero s l h p q o = absurd (omega arith)
  some_more n apart d e (suc k) s l h p q o = go (eqb s k) refl (λ u. some_more n apart d e k s (omega arith) u p q o)
    where
      mine : List Write
      mine = writes_of (acts s) m

      its : List Write
      its = writes_of (acts k) m

      apart_writes : s < k → meet (targets mine) (targets its) ≡ false
      apart_writes u = rw (targets_of (acts s) m, targets_of (acts k) m) (apart s k u (omega arith))

      later : (b : Bool) → s < k → after_some e k ≡ puts mine (after_some d k)
          → pick b (puts its (after_some e k)) (after_some e k) ≡ puts mine (pick b (puts its (after_some d k)) (after_some d k))
      later true u r = ap (puts its) r ∙ puts_comm mine its (after_some d k) (apart_writes u)
      later false u r = r

      go : (b : Bool) → eqb s k ≡ b → (s < k → after_some e k ≡ puts mine (after_some d k))
          → after_some e (suc k) ≡ puts mine (after_some d (suc k))
      go true t r =
          let u : s ≡ k = eqb-true s k t in
          rw (← u, q, p) (ap (puts mine) (some_same e d s (λ i v. o i (omega arith))))
      go false t r =
          let u : s < k = omega (arith, eqb-false s k t) in
          rw (o k (λ z. eqb-false s k t (sym z))) (later (d k) u (r u))

  -- places that none of the picked slots stores keep their contents
  pub agree_some : (d : ℕ → Bool) (ps : List Place) (k : ℕ)
      → ((i : ℕ) → i < k → d i ≡ true → meet ps (stores_by (acts i) m) ≡ false) → Agree ps m (after_some d k)
  unfolding after_some
  agree_some d ps zero h = agree_refl ps m
  agree_some d ps (suc k) h = go (d k) refl (agree_some d ps k (λ i l. h i (omega arith)))
    where
      its : List Write
      its = writes_of (acts k) m

      go : (b : Bool) → d k ≡ b → Agree ps m (after_some d k) → Agree ps m (pick b (puts its (after_some d k)) (after_some d k))
      go true q a =
          agree_trans ps m (after_some d k) _ a
          (agree_puts ps its (after_some d k) (rw (targets_of (acts k) m) (h k (omega arith) q)))
      go false q a = a

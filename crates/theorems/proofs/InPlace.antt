-- 01, 'Runs and orders': the steps of an admissible order, made one by one in place, each do what they would do on the
-- machine before the line, and end in the machine of the plain line.
use mathlib.Core.Path.{◌≡◌, refl, ap, ◌∙◌, sym}
use mathlib.Core.Bool.{Bool, true, false, not, ◌&&◌, ◌||◌, true≢false, false≢true}
use mathlib.Core.Logic.{◌≢◌}
use mathlib.Core.List.{List, [], ◌∷◌}
use mathlib.Core.Option.{Option, none, some}
use Prim.Native.Nat.{ℕ, zero, suc, ◌+◌, ◌*◌, ◌/◌, ◌%◌, ◌<◌, ◌≤◌}
use native.Mathlib.Omega.{arith}
use lib.ListN.{take}
use lib.Dec.{eqb, ltb}
use borrow.Author.Tests.{eqb-true, eqb-false, eq-eqb, ne_eqb, ltb-true, ltb-false}
use Rattle.bits.specs.Pick.{pick}
use Rattle.slots.specs.Lists.{count}
use Rattle.slots.specs.Places.{meet}
use Rattle.slots.proofs.Tests.{neither_left, neither_right, or_right}
use Rattle.machine.specs.Machine.{Machine}
use Rattle.machine.specs.Fetches.{values, asked, puts}
use Rattle.machine.proofs.Fetches.{Agree, agree_values, agree_asked}
use Rattle.steps.specs.Steps.{Act, InLine, begun, fetch_step, store_held, store_step, step_by, step, steps_from, steps}
use Rattle.orders.specs.Orders.{reads_by, stores_by, waits, precedes, once, in_sequence}
use Rattle.theorems.proofs.Positions.{precedes_head, once_count, sequence_precedes}
use Rattle.theorems.proofs.PlainBy.{writes_of, plain_by, Apart, after_some, some_all, some_none, some_same, some_idle, some_more, agree_some}

-- ---- what each step does

-- a fetch reads the places, and takes the values, that it would before the line; a store finds those values held
abbrev pub StepAsBefore : Option Act → ℕ → Machine → InLine → Type 0
StepAsBefore none b m c = Unit {0}
StepAsBefore (some a) b m c =
    (b % 2 ≡ 0
    → (asked a.asks c.machine ≡ asked a.asks m) × (values a.asks c.machine ≡ values a.asks m))
    × (b % 2 ≡ 1 → c.holds (b / 2) ≡ some (values a.asks m))

abbrev pub AsBefore : (ℕ → Option Act) → Machine → List ℕ → InLine → Type 0
AsBefore acts m [] c = Unit {0}
AsBefore acts m (b ∷ bs) c = StepAsBefore (acts (b / 2)) b m c × AsBefore acts m bs (step acts b c)

pub take_as_before : (acts : ℕ → Option Act) (m : Machine) (k : ℕ) (bs : List ℕ) (c : InLine) → AsBefore acts m bs c
    → AsBefore acts m (take k bs) c
take_as_before acts m zero bs c h = tt
take_as_before acts m (suc k) [] c h = tt
take_as_before acts m (suc k) (b ∷ bs) c h = (h.0, take_as_before acts m k bs (step acts b c) h.1)

-- ---- facts of truth values

left_step : (a b : Bool) (n : ℕ) → pick a 1 0 + n ≡ pick b 0 1 → n ≡ pick (a || b) 0 1
left_step true true n e = absurd (omega arith)
left_step true false n e = omega arith
left_step false b n e = omega (arith, e)

ahead_step : (a b d : Bool) {c : Bool} → a ≡ false → (a || (not b && c)) ≡ true → d ≡ false
    → (c ≡ true) × ((b || d) ≡ false)
ahead_step true b d q p e = absurd (true≢false q)
ahead_step false true d q p e = absurd (false≢true p)
ahead_step false false d q p e = (p, e)

-- the steps that are made, when byte x is made too
also : (ℕ → Bool) → ℕ → ℕ → Bool
also d x y = eqb x y || d y

-- the slots that have stored
abbrev stores : (ℕ → Bool) → ℕ → Bool
stores d i = d (2 * i + 1)

module _ (acts : ℕ → Option Act) (n : ℕ) (m : Machine) where
  -- ---- what is known inside an order: d says which steps are made, bs are those to come

  record Pending (d : ℕ → Bool) (bs : List ℕ) : Type 0 where
    left : (b : ℕ) → b < 2 * n → count (λ x. eqb x b) bs ≡ pick (d b) 0 1
    ahead : (s t : ℕ) → s < n → t < n → waits acts m s t ≡ true → d (2 * s) ≡ false
        → (precedes (2 * s) (2 * t + 1) bs ≡ true) × (d (2 * t + 1) ≡ false)

  -- what a slot of the line has to hold once it has fetched: the values of its fetch on m
  abbrev Holds : Option Act → Option (List ℕ) → Type 0
  Holds none o = Unit {0}
  Holds (some a) o = o ≡ some (values a.asks m)

  record Kept (d : ℕ → Bool) (c : InLine) : Type 0 where
    machine_is : c.machine ≡ after_some acts m (stores d) n
    held : (s : ℕ) → d (2 * s) ≡ true → Holds (acts s) (c.holds s)

  pending_step : (d : ℕ → Bool) (b : ℕ) (bs : List ℕ) → Pending d (b ∷ bs) → Pending (also d b) bs
  unfolding also
  pending_step d b bs P =
      record {
        left = λ y h. left_step (eqb b y) (d y) (count (λ x. eqb x y) bs) (P.left y h);
        ahead = λ s t hs ht w e.
            let p = P.ahead s t hs ht w (neither_right (eqb b (2 * s)) _ e) in
            ahead_step (eqb b (2 * s)) (eqb b (2 * t + 1)) (d (2 * t + 1))
            (neither_left (eqb b (2 * s)) _ e)
            (rw (precedes_head (2 * s) (2 * t + 1) b bs (omega arith)) at p.0)
            p.1;
      }

  -- a step that is next is not made yet
  not_made : (d : ℕ → Bool) (b : ℕ) (bs : List ℕ) → Pending d (b ∷ bs) → b < 2 * n → d b ≡ false
  not_made d b bs P h = go (d b) (rw (eq-eqb b b refl) at (P.left b h))
    where
      go : (t : Bool) → 1 + count (λ x. eqb x b) bs ≡ pick t 0 1 → t ≡ false
      go true e = absurd (omega arith)
      go false e = refl

  -- a slot that has not fetched reads no place that has been stored
  unread : (d : ℕ → Bool) (bs : List ℕ) → Pending d bs → (s t : ℕ) → s < n → t < n → d (2 * s) ≡ false
      → d (2 * t + 1) ≡ true → meet (reads_by (acts s) m) (stores_by (acts t) m) ≡ false
  unfolding waits
  unread d bs P s t hs ht e f = go (meet (reads_by (acts s) m) (stores_by (acts t) m)) refl
    where
      go : (b : Bool) → meet (reads_by (acts s) m) (stores_by (acts t) m) ≡ b → b ≡ false
      go true q = absurd (true≢false (sym f ∙ (P.ahead s t hs ht (or_right (eqb s t) q) e).1))
      go false q = refl

  -- a store that is next finds that its slot has fetched
  ready : (d : ℕ → Bool) (bs : List ℕ) (b s : ℕ) → Pending d (b ∷ bs) → s < n → b ≡ 2 * s + 1 → d (2 * s) ≡ true
  unfolding waits
  ready d bs b s P h u = go (d (2 * s)) refl
    where
      own : (eqb s s || meet (reads_by (acts s) m) (stores_by (acts s) m)) ≡ true
      own = rw (eq-eqb s s refl)

      go : (t : Bool) → d (2 * s) ≡ t → t ≡ true
      go true e = refl
      go false e =
          let p = rw (precedes_head (2 * s) (2 * s + 1) b bs (omega arith)) at (P.ahead s s h h own e).0 in
          absurd (false≢true (rw (ne_eqb b (2 * s) (omega arith), eq-eqb b (2 * s + 1) u) at p))

  -- ---- one step

  -- a fetch that is next sees what it would have seen before the line
  seen : (d : ℕ → Bool) (c : InLine) (bs : List ℕ) (b s : ℕ) (a : Act) → Pending d (b ∷ bs) → Kept d c → s < n
      → b ≡ 2 * s → acts s ≡ some a → Agree (asked a.asks m) m c.machine
  seen d c bs b s a P k h u e =
      let unmade : d (2 * s) ≡ false = sym (ap d u) ∙ not_made d b bs P (omega arith) in
      rw k.machine_is
      (agree_some acts m (stores d) (asked a.asks m) n
      (λ i l f. rw e at (unread d (b ∷ bs) P s i h l unmade f)))

  -- a byte that names no slot of the line does nothing, and such a slot stores nothing
  kept_idle : (d : ℕ → Bool) (c : InLine) (b : ℕ) → Kept d c → acts (b / 2) ≡ none → Kept (also d b) c
  unfolding also
  kept_idle d c b k e =
      record {
        machine_is =
            k.machine_is
            ∙ sym
            (some_idle acts m (stores d) n (b / 2) e (stores (also d b))
            (λ i z. rw (ne_eqb b (2 * i + 1) (λ u. z (omega arith)))));
        held = λ s f. go s (eqb b (2 * s)) refl f;
      }
    where
      go : (s : ℕ) (t : Bool) → eqb b (2 * s) ≡ t → (t || d (2 * s)) ≡ true → Holds (acts s) (c.holds s)
      go s true q f =
          let u : s ≡ b / 2 = omega (arith, eqb-true b (2 * s) q) in
          let v : acts s ≡ none = ap acts u ∙ e in
          rw v tt
      go s false q f = k.held s f

  kept_fetch : (d : ℕ → Bool) (c : InLine) (b s : ℕ) (a : Act) → Kept d c → b ≡ 2 * s → acts s ≡ some a
      → values a.asks c.machine ≡ values a.asks m → Kept (also d b) (fetch_step a s c)
  unfolding also
  kept_fetch d c b s a k u e v =
      record {
        machine_is =
            k.machine_is
            ∙ some_same acts m (stores d) (stores (also d b)) n
            (λ i l. sym (rw (ne_eqb b (2 * i + 1) (omega arith))));
        held = λ t f. go t (eqb s t) refl f;
      }
    where
      go : (t : ℕ) (q : Bool) → eqb s t ≡ q → (eqb b (2 * t) || d (2 * t)) ≡ true
          → Holds (acts t) (pick q (some (values a.asks c.machine)) (c.holds t))
      go t true q f =
          let w : acts t ≡ some a = ap acts (sym (eqb-true s t q)) ∙ e in
          rw w (ap some v)
      go t false q f =
          let z : s ≢ t = eqb-false s t q in
          k.held t (rw (ne_eqb b (2 * t) (λ w. z (omega arith))) at f)

  kept_store : Apart acts n m → (d : ℕ → Bool) (c : InLine) (bs : List ℕ) (b s : ℕ) (a : Act) → Pending d (b ∷ bs)
      → Kept d c → s < n → b ≡ 2 * s + 1 → acts s ≡ some a → c.holds s ≡ some (values a.asks m)
      → Kept (also d b) (store_step a s c)
  unfolding also
  kept_store apart d c bs b s a P k h u e v = record { machine_is = moved; held = λ t f. k.held t (others t f) }
    where
      unmade : d (2 * s + 1) ≡ false
      unmade = sym (ap d u) ∙ not_made d b bs P (omega arith)

      -- this store, made last, is the same as made in slot order
      last : after_some acts m (stores (also d b)) n ≡ puts (writes_of (acts s) m) (after_some acts m (stores d) n)
      last =
          some_more acts m n apart (stores d) (stores (also d b)) n s (omega arith) h unmade
          (rw (eq-eqb b (2 * s + 1) u))
          (λ i z. rw (ne_eqb b (2 * i + 1) (λ w. z (omega arith))))

      moved : store_held a (c.holds s) c.machine ≡ after_some acts m (stores (also d b)) n
      moved = rw (v, k.machine_is, last, e)

      others : (t : ℕ) → (eqb b (2 * t) || d (2 * t)) ≡ true → d (2 * t) ≡ true
      others t f = rw (ne_eqb b (2 * t) (omega arith)) at f

  module _ (apart : Apart acts n m) (absent : (s : ℕ) → n ≤ s → acts s ≡ none) where
    -- a slot that the line has is one of its n
    within : (s : ℕ) (a : Act) → acts s ≡ some a → s < n
    within s a e = go (ltb s n) refl
      where
        go : (b : Bool) → ltb s n ≡ b → s < n
        go true q = ltb-true s n q
        go false q =
            let missing : acts s ≡ none = absent s (ltb-false s n q) in
            let z : ◌≡◌ {A = ℕ} 0 1 = cc in
            absurd (omega arith)

    one_step : (d : ℕ → Bool) (c : InLine) (b : ℕ) (bs : List ℕ) → Pending d (b ∷ bs) → Kept d c
        → StepAsBefore (acts (b / 2)) b m c × Kept (also d b) (step acts b c)
    unfolding step
    one_step d c b bs P k = go (acts (b / 2)) refl
      where
        go : (o : Option Act) → acts (b / 2) ≡ o → StepAsBefore o b m c × Kept (also d b) (step_by o b c)
        go none e = (tt, kept_idle d c b k e)
        go (some a) e = by_kind (eqb (b % 2) 0) refl
          where
            h : b / 2 < n
            h = within (b / 2) a e

            by_kind : (t : Bool) → eqb (b % 2) 0 ≡ t
                → StepAsBefore (some a) b m c
                × Kept (also d b) (pick t (fetch_step a (b / 2) c) (store_step a (b / 2) c))
            by_kind true q =
                let even : b % 2 ≡ 0 = eqb-true (b % 2) 0 q in
                let same = seen d c bs b (b / 2) a P k h (omega arith) e in
                let v = sym (agree_values a.asks m c.machine same) in (
                  (λ _. (sym (agree_asked a.asks m c.machine same), v), λ odd. absurd (omega arith)),
                  kept_fetch d c b (b / 2) a k (omega arith) e v,
                )
            by_kind false q =
                let z : b % 2 ≢ 0 = eqb-false (b % 2) 0 q in
                let u : b ≡ 2 * (b / 2) + 1 = omega arith in
                let v = rw e at (k.held (b / 2) (ready d bs b (b / 2) P h u)) in
                ((λ even. absurd (z even), λ _. v), kept_store apart d c bs b (b / 2) a P k h u e v)

    -- ---- to the end of the order

    to_end : (d : ℕ → Bool) (c : InLine) (bs : List ℕ) → Pending d bs → Kept d c
        → ((steps_from acts bs c).machine ≡ plain_by acts m n) × AsBefore acts m bs c
    unfolding steps_from
    to_end d c [] P k = (
      k.machine_is ∙ some_all acts m (stores d) n (λ i h. over (d (2 * i + 1)) (P.left (2 * i + 1) (omega arith))),
      tt,
    )
      where
        over : (b : Bool) → 0 ≡ pick {A = ℕ} b 0 1 → b ≡ true
        over true e = refl
        over false e = absurd (omega arith)
    to_end d c (b ∷ bs) P k =
        let now = one_step d c b bs P k in
        let rest = to_end (also d b) (step acts b c) bs (pending_step d b bs P) now.1 in
        (rest.0, (now.0, rest.1))

    from_start : (bs : List ℕ) → once n bs ≡ true → in_sequence acts n m bs ≡ true
        → ((steps_from acts bs (begun m)).machine ≡ plain_by acts m n) × AsBefore acts m bs (begun m)
    from_start bs e f =
        to_end (λ _. false) (begun m) bs
        record {
          left = λ b h. once_count n bs e b h;
          ahead = λ s t hs ht w _. (sequence_precedes acts n m bs f s t hs ht w, refl);
        }
        record { machine_is = some_none acts m n; held = λ s q. absurd (false≢true q) }

    -- they end in the machine of the plain line
    pub line_in_place : (bs : List ℕ) → once n bs ≡ true → in_sequence acts n m bs ≡ true
        → steps acts bs m ≡ plain_by acts m n
    unfolding steps
    line_in_place bs e f = (from_start bs e f).0

    -- and each does what it would do before the line
    pub steps_as_before : (bs : List ℕ) → once n bs ≡ true → in_sequence acts n m bs ≡ true → AsBefore acts m bs (begun m)
    steps_as_before bs e f = (from_start bs e f).1

    -- also where a limit ends the run inside the line
    pub prefix_as_before : (bs : List ℕ) → once n bs ≡ true → in_sequence acts n m bs ≡ true
        → (k : ℕ) → AsBefore acts m (take k bs) (begun m)
    prefix_as_before bs e f k = take_as_before acts m k bs (begun m) (steps_as_before bs e f)

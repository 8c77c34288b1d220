-- Laws of fetches and stores: a fetch depends on the places that it asks and on nothing else; stores of other places leave
-- them, and stores with no place in common commute.
use mathlib.Core.Path.{◌≡◌, refl, ap, ◌∙◌, sym}
use mathlib.Core.Bool.{Bool, true, false, true≢false}
use mathlib.Core.List.{List, [], ◌∷◌, ◌++◌}
use Prim.Native.Nat.{ℕ}
use Rattle.slots.specs.Lists.{some}
use Rattle.slots.specs.Places.{Place, same_place, meet}
use Rattle.slots.proofs.Tests.{neither_left, neither_right}
use Rattle.machine.specs.Machine.{Machine, get, put}
use Rattle.machine.specs.Fetches.{Ask, done, ask, values, asked, asks, holding, Write, puts, targets}
use Rattle.machine.proofs.Places.{same_refl, same_true, get_put_other, put_comm}

-- ---- the questions of a list

-- what the places of a list hold
unfoldable pub gets : Machine → List Place → List ℕ
gets m [] = []
gets m (p ∷ ps) = get m p ∷ gets m ps

pub values_asks : (ps : List Place) (k : List ℕ → Ask) (m : Machine) → values (asks ps k) m ≡ values (k (gets m ps)) m
unfolding values asks gets
values_asks [] k m = refl
values_asks (p ∷ ps) k m = values_asks ps (λ vs. k (get m p ∷ vs)) m

pub asked_asks : (ps : List Place) (k : List ℕ → Ask) (m : Machine)
    → asked (asks ps k) m ≡ ps ++ asked (k (gets m ps)) m
unfolding asked asks gets
asked_asks [] k m = refl
asked_asks (p ∷ ps) k m = ap (λ (l : List Place). p ∷ l) (asked_asks ps (λ vs. k (get m p ∷ vs)) m)

-- ---- a fetch that holds what is made of another's words

pub values_holding : (f : List ℕ → List ℕ) (t : Ask) (m : Machine) → values (holding f t) m ≡ f (values t m)
unfolding values holding
values_holding f (done vs) m = refl
values_holding f (ask p k) m = values_holding f (k (get m p)) m

pub asked_holding : (f : List ℕ → List ℕ) (t : Ask) (m : Machine) → asked (holding f t) m ≡ asked t m
unfolding asked holding
asked_holding f (done vs) m = refl
asked_holding f (ask p k) m = ap (λ (l : List Place). p ∷ l) (asked_holding f (k (get m p)) m)

-- ---- a fetch depends on the places that it asks

-- two machines agree on the places of a list
abbrev pub Agree : List Place → Machine → Machine → Type 0
Agree [] m n = Unit {0}
Agree (p ∷ ps) m n = (get m p ≡ get n p) × Agree ps m n

pub agree_refl : (ps : List Place) (m : Machine) → Agree ps m m
agree_refl [] m = tt
agree_refl (p ∷ ps) m = (refl, agree_refl ps m)

pub agree_trans : (ps : List Place) (k m n : Machine) → Agree ps k m → Agree ps m n → Agree ps k n
agree_trans [] k m n f g = tt
agree_trans (p ∷ ps) k m n f g = (f.0 ∙ g.0, agree_trans ps k m n f.1 g.1)

pub agree_values : (t : Ask) (m n : Machine) → Agree (asked t m) m n → values t m ≡ values t n
unfolding values asked
agree_values (done vs) m n h = refl
agree_values (ask p k) m n h = agree_values (k (get m p)) m n h.1 ∙ ap (λ (v : ℕ). values (k v) n) h.0

pub agree_asked : (t : Ask) (m n : Machine) → Agree (asked t m) m n → asked t m ≡ asked t n
unfolding asked
agree_asked (done vs) m n h = refl
agree_asked (ask p k) m n h =
    ap (λ (l : List Place). p ∷ l) (agree_asked (k (get m p)) m n h.1) ∙ ap (λ (v : ℕ). p ∷ asked (k v) n) h.0

-- ---- stores of other places

-- the place is none of those stored
abbrev IsSpared : List Write → Place → Type 0
IsSpared ws q = some (same_place q) (targets ws) ≡ false

same_swap : (p q : Place) → same_place q p ≡ false → same_place p q ≡ false
same_swap p q e = swapped (same_place p q) refl
  where
    swapped : (b : Bool) → b ≡ same_place p q → same_place p q ≡ false
    swapped true h = absurd (true≢false (sym (rw (same_true p q (sym h)) (same_refl q)) ∙ e))
    swapped false h = sym h

pub get_puts : (ws : List Write) (m : Machine) (q : Place) → IsSpared ws q → get (puts ws m) q ≡ get m q
unfolding puts targets
get_puts [] m q e = refl
get_puts (w ∷ ws) m q e =
    get_puts ws (put m w.to w.value) q (neither_right (same_place q w.to) _ e)
    ∙ get_put_other m w.to q w.value (same_swap w.to q (neither_left (same_place q w.to) _ e))

pub agree_puts : (ps : List Place) (ws : List Write) (m : Machine) → meet ps (targets ws) ≡ false → Agree ps m (puts ws m)
agree_puts [] ws m e = tt
agree_puts (p ∷ ps) ws m e = (
  sym (get_puts ws m p (neither_left (some (same_place p) (targets ws)) _ e)),
  agree_puts ps ws m (neither_right (some (same_place p) (targets ws)) _ e),
)

put_puts : (ws : List Write) (m : Machine) (q : Place) (v : ℕ) → IsSpared ws q → puts ws (put m q v) ≡ put (puts ws m) q v
unfolding puts targets
put_puts [] m q v e = refl
put_puts (w ∷ ws) m q v e =
    ap (puts ws)
    (put_comm m q w.to v w.value (neither_left (same_place q w.to) _ e))
    ∙ put_puts ws (put m w.to w.value) q v (neither_right (same_place q w.to) _ e)

pub puts_comm : (us ws : List Write) (m : Machine) → meet (targets us) (targets ws) ≡ false
    → puts ws (puts us m) ≡ puts us (puts ws m)
unfolding puts targets
puts_comm [] ws m e = refl
puts_comm (u ∷ us) ws m e =
    puts_comm us ws (put m u.to u.value) (neither_right (some (same_place u.to) (targets ws)) _ e)
    ∙ ap (puts us) (put_puts ws m u.to u.value (neither_left (some (same_place u.to) (targets ws)) _ e))

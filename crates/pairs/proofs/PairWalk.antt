-- The code's walk over the pairs of a line's slots: what is left to compare gives the whole answer.
use mathlib.Core.Path.{◌≡◌, refl, sym, ap, ◌∙◌}
use mathlib.Core.List.{List, [], ◌∷◌, ◌++◌, map}
use mathlib.Core.Bool.{true}
use Prim.Native.Nat.{ℕ, zero, suc, ◌+◌, ◌-◌, ◌*◌, ◌/◌, ◌≤◌, ◌<◌}
use native.Mathlib.Nat.{sub-zero}
use native.Mathlib.Numerals.{add-one}
use native.Mathlib.Omega.{arith}
use lib.ListN.{length, get_or}
use Rattle.std.specs.Prelude.{Option, Some, None}
use lib.Dec.{eqb}
use borrow.Author.Tests.{eq-eqb, ne_eqb}
use Rattle.bits.specs.Pick.{pick}
use Rattle.slots.specs.Lists.{some}
use Rattle.slots.specs.Conditionals.{slot_words}
use Rattle.pairs.specs.Pairs.{up_to_first, pairs_after}
use Rattle.line.specs.Lines.{sized}
use Rattle.pairs.specs.Units.{units_from, units_in, later_from, same_unit, compared_units}
use Rattle.pairs.specs.declared.Compared.{Compared}
use Rattle.line.proofs.Lines.{Whole, whole_line}

abbrev pub compared : ℕ → Option ℕ → Compared
compared pairs later = record { pairs = pairs; later = later }

-- after so many pairs: slot s and those behind it, on the units us, with those before them
unfoldable pub from_slot : ℕ → ℕ → List ℕ → List ℕ → Compared
from_slot pairs s before us =
    compared (pairs + length (up_to_first same_unit (pairs_after before us))) (later_from s before us)

-- slot s, on unit u, with those of the slots before it that are left, and then the slots behind it
unfoldable pub from_pair : ℕ → ℕ → List ℕ → ℕ → List ℕ → List ℕ → Compared
from_pair pairs s left u before us =
    compared (pairs + length (up_to_first same_unit (map (λ e. (e, u)) left ++ pairs_after (before ++ (u ∷ [])) us)))
    (pick (some (λ e. eqb e u) left) (Some s) (later_from (suc s) (before ++ (u ∷ [])) us))

first_slot : (u : ℕ) (us : List ℕ) → compared_units (u ∷ us) ≡ from_slot 0 1 (u ∷ []) us
unfolding compared_units from_slot
first_slot u us = ap (λ (n : ℕ). compared n (later_from 1 (u ∷ []) us)) (omega arith)

module _ (pairs s : ℕ) where
  no_slot : (before : List ℕ) → from_slot pairs s before [] ≡ compared pairs None
  unfolding from_slot
  no_slot before = ap (λ (n : ℕ). compared n None) (omega arith)

  module _ (u : ℕ) (before us : List ℕ) where
    next_slot : from_slot pairs s before (u ∷ us) ≡ from_pair pairs s before u before us
    unfolding from_slot from_pair
    next_slot = refl

    no_pair : from_pair pairs s [] u before us ≡ from_slot pairs (suc s) (before ++ (u ∷ [])) us
    unfolding from_slot from_pair
    no_pair = refl

    module _ (e : ℕ) (left : List ℕ) where
      same_pair : e ≡ u → from_pair pairs s (e ∷ left) u before us ≡ compared (pairs + 1) (Some s)
      unfolding from_pair
      same_pair q = rw (eq-eqb e u q)

      other_pair : (e ≡ u → ⊥) → from_pair pairs s (e ∷ left) u before us ≡ from_pair (pairs + 1) s left u before us
      unfolding from_pair
      other_pair q =
          rw (ne_eqb e u q)
          (ap (λ (n : ℕ). compared n (pick (some (λ e. eqb e u) left) (Some s) (later_from (suc s) (before ++ (u ∷ [])) us)))
          (omega arith))

-- ---- the units of a line's words

module _ (w : List ℕ) where
  abbrev slots : ℕ
  slots = length w / slot_words

  units_more : (s n : ℕ) {t : ℕ} → t ≡ s + n → units_from w s n ++ (get_or w (slot_words * t) 0 ∷ []) ≡ units_from w s (suc n)
  units_more s zero e = ap (λ (i : ℕ). get_or w (slot_words * i) 0 ∷ []) (e ∙ omega arith)
  units_more s (suc n) e =
      ap (λ (us : List ℕ). get_or w (slot_words * s) 0 ∷ us) (units_more (suc s) n (e ∙ omega arith))

  units_next : (s n : ℕ) → s < n → units_from w s (n - s) ≡ get_or w (slot_words * s) 0 ∷ units_from w (suc s) (n - suc s)
  units_next s n h = let e : n - s ≡ suc (n - suc s) = omega arith in rw e

  units_none : (s n : ℕ) → n ≤ s → units_from w s (n - s) ≡ []
  units_none s n h = let e : n - s ≡ 0 = omega arith in rw e

  -- the slots before slot s are compared with each other
  pub record Slots (pairs s : ℕ) : Type 0 where
    pub few : pairs ≤ 4 * s
    pub same : compared_units (units_in w) ≡ from_slot pairs s (units_from w 0 s) (units_from w s (slots - s))

  -- and slot s with those before slot e
  pub record Pairs (pairs s e : ℕ) : Type 0 where
    pub few : pairs ≤ 4 * s + e
    pub same :
        compared_units (units_in w)
        ≡ from_pair pairs s (units_from w e (s - e)) (get_or w (slot_words * s) 0) (units_from w 0 s) (units_from w (suc s) (slots - suc s))

  module _ (sizes : sized (length w) ≡ true) where
    lines_slots : (slots ≤ 4) × (0 < slots) × (length w ≡ slot_words * slots)
    lines_slots = go (whole_line w sizes)
      where
        go : Whole w → (slots ≤ 4) × (0 < slots) × (length w ≡ slot_words * slots)
        go h = (omega (arith, h.words, h.four), omega (arith, h.words, h.some), omega (arith, h.words))

    pub slots_first : Slots 0 1
    unfolding compared_units
    slots_first =
        record {
          few = omega arith;
          same = ap compared_units (rw (sub-zero slots) at (units_next 0 slots lines_slots.1)) ∙ first_slot _ _;
        }

    module _ {pairs s : ℕ} (at : Slots pairs s) where
      pub slots_done : slots ≤ s → compared pairs None ≡ compared_units (units_in w)
      slots_done h = sym (at.same ∙ rw (units_none s slots h) (no_slot pairs s _))

      pub pairs_first : s < slots → Pairs pairs s 0
      pairs_first h =
          record {
            few = omega (arith, at.few);
            same = at.same ∙ rw (units_next s slots h, sub-zero s) (next_slot pairs s _ _ _);
          }

    module _ {pairs s e : ℕ} (at : Pairs pairs s e) where
      module _ (h : e < s) where
        abbrev rest : List ℕ
        rest = units_from w (suc s) (slots - suc s)

        here : compared_units (units_in w)
            ≡ from_pair pairs s (get_or w (slot_words * e) 0 ∷ units_from w (suc e) (s - suc e)) (get_or w (slot_words * s) 0) (units_from w 0 s) rest
        here = at.same ∙ rw (units_next e s h)

        pub pair_found : get_or w (slot_words * e) 0 ≡ get_or w (slot_words * s) 0
            → compared (pairs + 1) (Some s) ≡ compared_units (units_in w)
        pair_found q = sym (here ∙ same_pair pairs s _ _ _ _ _ q)

        pub pairs_next : (get_or w (slot_words * e) 0 ≡ get_or w (slot_words * s) 0 → ⊥) → Pairs (pairs + 1) s (e + 1)
        pairs_next q =
            record {
              few = omega (arith, at.few);
              same = rw (add-one e) (here ∙ other_pair pairs s _ _ _ _ _ q);
            }

      pub slots_next : s < slots → s ≤ e → e ≤ s → Slots pairs (s + 1)
      slots_next l h k =
          record {
            few = omega (arith, at.few, lines_slots.0);
            same =
                at.same
                ∙ rw (units_none e s h, add-one s, ← units_more 0 s {t = s} (omega arith))
                (no_pair pairs s _ _ _);
          }

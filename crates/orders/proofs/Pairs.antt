-- One slot's fetch and one store, by what the code finds of them.
use mathlib.Core.Path.{◌≡◌, ap₂, ◌∙◌}
use mathlib.Core.Bool.{Bool, true, false, not, ◌||◌, or-false}
use mathlib.Core.List.{List}
use Prim.Native.Nat.{ℕ, ◌+◌, ◌*◌, ◌≤◌, ◌<◌}
use lib.ListN.{length, get_or}
use lib.Dec.{eqb}
use borrow.Author.Tests.{lt-ltb, le-ltb, eq-eqb, ne_eqb}
use Rattle.std.proofs.lemmas.List.{get_or_default}
use Rattle.slots.proofs.Tests.{or_right}
use Rattle.conditional.specs.declared.line_slot.Fetched.{Fetched}
use Rattle.footprints.specs.Footprints.{footprints_meet, reads_in, stores_in}
use Rattle.footprints.specs.declared.footprint.Footprint.{Footprint}
use Rattle.orders.specs.AdmissibleFetched.{reads_stored, past, nth, pair_in_sequence}

module _ (at : ℕ → ℕ) (slots : List Fetched) (s t : ℕ) where
  pub pair_before : at (2 * s) < at (2 * t + 1) → pair_in_sequence at slots s t ≡ true
  pair_before h =
      or_right (not (eqb s t || reads_stored (nth slots s) (nth slots t))) (lt-ltb (at (2 * s)) (at (2 * t + 1)) h)

  module _ (h : at (2 * t + 1) ≤ at (2 * s)) where
    pub pair_own : s ≡ t → pair_in_sequence at slots s t ≡ false
    pair_own e = rw (le-ltb (at (2 * s)) (at (2 * t + 1)) h, eq-eqb s t e)

    module _ (n : s ≡ t → ⊥) {r : Bool} (e : r ≡ reads_stored (nth slots s) (nth slots t)) where
      pair_other : pair_in_sequence at slots s t ≡ not r
      pair_other = rw (le-ltb (at (2 * s)) (at (2 * t + 1)) h, ne_eqb s t n, ← e) (or-false (not r))

      pub pair_reads : r ≡ true → pair_in_sequence at slots s t ≡ false
      pair_reads q = pair_other ∙ rw q

      pub pair_apart : r ≡ false → pair_in_sequence at slots s t ≡ true
      pair_apart q = pair_other ∙ rw q

-- what the code finds of two slots
pub reads_stored_in : (slots : List Fetched) (s t : ℕ) (d e : Fetched) → s < length slots → t < length slots
    → {r : Bool} {p q : Footprint} → p ≡ reads_in (get_or slots s d).slot (get_or slots s d).held
    → q ≡ stores_in (get_or slots t e).slot.slot (get_or slots t e).held → r ≡ footprints_meet p q
    → r ≡ reads_stored (nth slots s) (nth slots t)
unfolding reads_stored
reads_stored_in slots s t d e hs ht p q f =
    f ∙ ap₂ footprints_meet (p ∙ rw (get_or_default slots s d past hs)) (q ∙ rw (get_or_default slots t e past ht))

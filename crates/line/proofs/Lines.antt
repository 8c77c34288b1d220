-- The slots of a line's words, one after another, and at their places in the line.
use mathlib.Core.Path.{◌≡◌, refl, sym, ◌∙◌, ap}
use mathlib.Core.Logic.{⊎_elim}
use mathlib.Core.List.{List}
use mathlib.Core.Bool.{true, ◌||◌}
use Prim.Native.Nat.{ℕ, zero, suc, ◌+◌, ◌*◌, ◌/◌, ◌≤◌, ◌<◌}
use native.Mathlib.Omega.{arith}
use lib.ListN.{length, take, drop}
use lib.Seq.{drop-drop}
use lib.Dec.{eqb, ltb}
use borrow.Author.Tests.{eqb-true, lt-ltb, le-ltb}
use Rattle.std.proofs.lemmas.Bool.{or_cases}
use Rattle.std.specs.Prelude.{Result}
use Rattle.bits.specs.Pick.{pick}
use Rattle.bits.proofs.Integers.{by_order}
use Rattle.slots.specs.Conditionals.{slot_words, read_slot}
use Rattle.line.specs.Lines.{sized, reads, read_line}
use Rattle.slots.specs.declared.conditional_slot.Conditional.{Conditional}
use Rattle.slots.specs.declared.slot.SlotRefusal.{SlotRefusal}
use Rattle.slots.specs.Lists.{nth_of}

-- ---- the k-th slot of a line's words, for whatever is kept of it
module _ {C : Type 0} (of : Result Conditional SlotRefusal → C) (none : C) where
  -- the k-th of n slots stands k slots on
  nth_reads : (n k : ℕ) (w : List ℕ) → k < n
      → nth_of of none k (reads n w) ≡ of (read_slot (take slot_words (drop (slot_words * k) w)))
  unfolding reads
  nth_reads zero k w h = absurd (omega arith)
  nth_reads (suc n) zero w h = refl
  nth_reads (suc n) (suc k) w h =
      nth_reads n k (drop slot_words w) (omega arith)
      ∙ ap (λ (v : List ℕ). of (read_slot (take slot_words v)))
      (drop-drop (slot_words * k) slot_words w ∙ ap (λ (i : ℕ). drop i w) more)
    where
      more : slot_words + slot_words * k ≡ slot_words * suc k
      more = omega arith

  past_reads : (n k : ℕ) (w : List ℕ) → n ≤ k → nth_of of none k (reads n w) ≡ none
  unfolding reads
  past_reads zero k w h = refl
  past_reads (suc n) zero w h = absurd (omega arith)
  past_reads (suc n) (suc k) w h = past_reads n k (drop slot_words w) (omega arith)

pub reads_length : (n : ℕ) (w : List ℕ) → length (reads n w) ≡ n
unfolding reads
reads_length zero w = refl
reads_length (suc n) w = ap suc (reads_length n (drop slot_words w))

-- a line is whole slots, one to four
pub record Whole (w : List ℕ) : Type 0 where
  pub slots : ℕ
  pub some : 1 ≤ slots
  pub four : slots ≤ 4
  pub words : length w ≡ slot_words * slots

pub whole_line : (w : List ℕ) → sized (length w) ≡ true → Whole w
whole_line w e =
    ⊎_elim
    (λ r.
    ⊎_elim
    (λ t.
    ⊎_elim (λ p. of 1 (omega arith) (omega arith) (eqb-true (length w) 7 p))
    (λ p. of 2 (omega arith) (omega arith) (eqb-true (length w) 14 p))
    (or_cases (eqb (length w) 7) (eqb (length w) 14) t))
    (λ p. of 3 (omega arith) (omega arith) (eqb-true (length w) 21 p))
    (or_cases (eqb (length w) 7 || eqb (length w) 14) (eqb (length w) 21) r))
    (λ p. of 4 (omega arith) (omega arith) (eqb-true (length w) 28 p))
    (or_cases (eqb (length w) 7 || eqb (length w) 14 || eqb (length w) 21) (eqb (length w) 28) e)
  where
    of : (n : ℕ) → 1 ≤ n → n ≤ 4 → length w ≡ slot_words * n → Whole w
    of n a b c = record { slots = n; some = a; four = b; words = c }

-- what is found at place k, nothing where the line is shorter
module _ {C : Type 0} (of : Result Conditional SlotRefusal → C) (none : C) (w : List ℕ) (k : ℕ) where
  abbrev found : C
  found =
      pick (ltb (length w) (slot_words * k + slot_words)) none (of (read_slot (take slot_words (drop (slot_words * k) w))))

  pub found_nth : sized (length w) ≡ true → found ≡ nth_of of none k (read_line w)
  found_nth e = at (whole_line w e)
    where
      at : Whole w → found ≡ nth_of of none k (read_line w)
      at h =
          let n : length w / slot_words ≡ h.slots = omega (arith, h.words) in
          rw n
          (by_order (found ≡ nth_of of none k (reads h.slots w)) h.slots k
          (λ l. rw (lt-ltb (length w) (slot_words * k + slot_words) (omega (arith, h.words)))
          (sym (past_reads of none h.slots k w l)))
          (λ l. rw (le-ltb (length w) (slot_words * k + slot_words) (omega (arith, h.words)))
          (sym (nth_reads of none h.slots k w l))))

-- The recurrence and the paths: no path's sum is above the metric of its last state, and the survivors' path reaches it.
use mathlib.Core.Path.{◌≡◌, refl, sym, ap, ◌∙◌, subst}
use mathlib.Core.Logic.{◌⊎◌, inl, inr}
use mathlib.Core.Bool.{Bool, true, false, ◌&&◌, false≢true}
use mathlib.Core.List.{List}
use Prim.Native.Nat.{ℕ, zero, suc, ◌+◌, ◌/◌, ◌<◌}
use native.Mathlib.Omega.{arith}
use lib.Dec.{ltb, eqb}
use lib.IntN.{ℤ, pos, neg_ℤ, ◌+ℤ◌, ◌-ℤ◌}
use lib.Signed.{lt_z, ◌≤ℤ◌, ≤ℤ_refl}
use borrow.Author.Tests.{lt-ltb, ltb-true, eq-eqb, ne_eqb, eqb-true}
use Rattle.std.proofs.lemmas.Bool.{or_cases}
use Rattle.bits.specs.Pick.{pick}
use Rattle.slots.proofs.Tests.{and_left, and_right, both, or_left, or_right}
use Rattle.clu.specs.Tmax.{max_z}
use Rattle.decoder.specs.Trellis.{branch, new_metric, metric_after}
use Rattle.decoder.specs.Paths.{comes_from, is_path, summed}
use Rattle.decoder.specs.Survivors.{from_upper, chosen, survivor}
use Rattle.decoder.proofs.Order.{sum_le, ≤ℤ-trans, max_first, max_second}

-- ---- one stage, from old metrics to state s by the branch value b

module _ (old : ℕ → ℤ) (b : ℤ) (s : ℕ) where
  abbrev best : ℤ
  best = max_z (old (s / 2) -ℤ b) (old (s / 2 + 4) +ℤ b)

  -- a sum that is at most its old state's metric stays at most the new one
  stage_below : (m : ℤ) (p : ℕ) → m ≤ℤ old p → comes_from s p ≡ true → pick (eqb p (s / 2)) (m -ℤ b) (m +ℤ b) ≤ℤ best
  stage_below m p h c = go (eqb p (s / 2)) refl (or_cases (eqb p (s / 2)) (eqb p (s / 2 + 4)) c)
    where
      lower : p ≡ s / 2 → (m -ℤ b) ≤ℤ best
      lower e =
          ≤ℤ-trans (m -ℤ b) (old (s / 2) -ℤ b) best
          (sum_le m (old (s / 2)) (neg_ℤ b) (subst (λ (n : ℕ). m ≤ℤ old n) e h))
          (max_first (old (s / 2) -ℤ b) (old (s / 2 + 4) +ℤ b))

      upper : p ≡ s / 2 + 4 → (m +ℤ b) ≤ℤ best
      upper e =
          ≤ℤ-trans (m +ℤ b) (old (s / 2 + 4) +ℤ b) best
          (sum_le m (old (s / 2 + 4)) b (subst (λ (n : ℕ). m ≤ℤ old n) e h))
          (max_second (old (s / 2) -ℤ b) (old (s / 2 + 4) +ℤ b))

      go : (x : Bool) → eqb p (s / 2) ≡ x → (eqb p (s / 2) ≡ true) ⊎ (eqb p (s / 2 + 4) ≡ true) →
          pick x (m -ℤ b) (m +ℤ b) ≤ℤ best
      go true e o = lower (eqb-true p (s / 2) e)
      go false e (inl f) = absurd (false≢true (sym e ∙ f))
      go false e (inr f) = upper (eqb-true p (s / 2 + 4) f)

  -- the chosen old state is one of the two, and its sum the new metric
  chosen_comes : (upper : Bool) → comes_from s (chosen upper s) ≡ true
  chosen_comes true = or_right (eqb (s / 2 + 4) (s / 2)) (eq-eqb (s / 2 + 4) (s / 2 + 4) refl)
  chosen_comes false = or_left (eqb (s / 2) (s / 2 + 4)) (eq-eqb (s / 2) (s / 2) refl)

  stage_chosen : (p : ℕ) → p ≡ chosen (lt_z (old (s / 2) -ℤ b) (old (s / 2 + 4) +ℤ b)) s →
      pick (eqb p (s / 2)) (old p -ℤ b) (old p +ℤ b) ≡ best
  unfolding max_z
  stage_chosen p e = ap sum e ∙ go (lt_z (old (s / 2) -ℤ b) (old (s / 2 + 4) +ℤ b))
    where
      sum : ℕ → ℤ
      sum n = pick (eqb n (s / 2)) (old n -ℤ b) (old n +ℤ b)

      go : (x : Bool) → sum (chosen x s) ≡ pick x (old (s / 2 + 4) +ℤ b) (old (s / 2) -ℤ b)
      go true = rw (ne_eqb (s / 2 + 4) (s / 2) (λ h. omega arith))
      go false = rw (eq-eqb (s / 2) (s / 2) refl)

-- ---- no path is better than the recurrence

path_state : (q : ℕ → ℕ) (t : ℕ) → is_path q t ≡ true → q t < 8
unfolding is_path
path_state q zero e = ltb-true (q 0) 8 e
path_state q (suc t) e =
    ltb-true (q (suc t)) 8
    (and_left (ltb (q (suc t)) 8) (comes_from (q (suc t)) (q t))
    (and_right (is_path q t) (ltb (q (suc t)) 8 && comes_from (q (suc t)) (q t)) e))

module _ (g : List ℤ) (q : ℕ → ℕ) where
  pub below : (t : ℕ) → is_path q t ≡ true → summed g q t ≤ℤ metric_after g t (q t)
  unfolding is_path summed metric_after new_metric
  below zero e = ≤ℤ_refl (pos 0)
  below (suc t) e =
      let last = and_right (is_path q t) (ltb (q (suc t)) 8 && comes_from (q (suc t)) (q t)) e in
      stage_below (metric_after g t) (branch g t (q (suc t))) (q (suc t)) (summed g q t) (q t)
      (below t (and_left (is_path q t) (ltb (q (suc t)) 8 && comes_from (q (suc t)) (q t)) e))
      (and_right (ltb (q (suc t)) 8) (comes_from (q (suc t)) (q t)) last)

-- what no state's metric is above, no path's sum is above
pub all_below : (g : List ℤ) (n : ℕ) (z : ℤ) → ((s : ℕ) → s < 8 → metric_after g n s ≤ℤ z) → (q : ℕ → ℕ) → is_path q n ≡ true →
    summed g q n ≤ℤ z
all_below g n z h q p =
    ≤ℤ-trans (summed g q n) (metric_after g n (q n)) z (below g q n p) (h (q n) (path_state q n p))

-- ---- the survivors' path

-- each state but the last is the survivor of the next
pub record Survives (g : List ℤ) (n : ℕ) (p : ℕ → ℕ) : Type 0 where
  pub last : p n < 8
  pub back : (t : ℕ) → t < n → p t ≡ survivor g t (p (suc t))

pub chosen_state : (x : Bool) (s : ℕ) → s < 8 → chosen x s < 8
chosen_state true s h = omega arith
chosen_state false s h = omega arith

module _ (g : List ℤ) (p : ℕ → ℕ) where
  -- what survives n + 1 stages survives n
  shorter : (n : ℕ) → Survives g (suc n) p → Survives g n p
  shorter n h =
      record {
        last = subst (λ (s : ℕ). s < 8) (sym (h.back n (omega arith)))
            (chosen_state (from_upper (metric_after g n) (branch g n) (p (suc n))) (p (suc n)) h.last);
        back = λ t l. h.back t (omega arith);
      }

  pub survives_path : (n : ℕ) → Survives g n p → is_path p n ≡ true
  unfolding is_path
  survives_path zero h = lt-ltb (p 0) 8 h.last
  survives_path (suc n) h =
      both (survives_path n (shorter n h))
      (both (lt-ltb (p (suc n)) 8 h.last)
      (subst (λ (s : ℕ). comes_from (p (suc n)) s ≡ true) (sym (h.back n (omega arith)))
      (chosen_comes (metric_after g n) (branch g n (p (suc n))) (p (suc n)) (from_upper (metric_after g n) (branch g n) (p (suc n))))))

  pub survives_sum : (n : ℕ) → Survives g n p → summed g p n ≡ metric_after g n (p n)
  unfolding summed metric_after new_metric from_upper
  survives_sum zero h = refl
  survives_sum (suc n) h =
      ap (λ (m : ℤ). pick (eqb (p n) (p (suc n) / 2)) (m -ℤ branch g n (p (suc n))) (m +ℤ branch g n (p (suc n))))
      (survives_sum n (shorter n h))
      ∙ stage_chosen (metric_after g n) (branch g n (p (suc n))) (p (suc n)) (p n) (h.back n (omega arith))

-- Note 3's recurrence gives the best metric: of each state, the largest sum of a path that ends there; of the answer, the largest of
-- the eight.
use mathlib.Core.Path.{◌≡◌, refl, sym, ap, ◌∙◌, subst}
use mathlib.Core.Bool.{true}
use mathlib.Core.List.{List}
use Prim.Native.Nat.{ℕ, zero, suc, ◌≤◌, ◌<◌}
use native.Mathlib.Decide.{ℕ_discrete}
use native.Mathlib.Omega.{arith}
use lib.Dec.{ltb}
use lib.IntN.{ℤ}
use lib.Signed.{◌≤ℤ◌, ≤ℤ_refl}
use borrow.Author.Tests.{lt-ltb, le-ltb}
use Rattle.bits.specs.Pick.{pick}
use Rattle.decoder.specs.Trellis.{metric_after, largest_up_to}
use Rattle.decoder.specs.Paths.{is_path, summed}
use Rattle.decoder.specs.Survivors.{survivor}
use Rattle.decoder.specs.BestPath.{entries, Best, Answered}
use Rattle.decoder.proofs.Order.{≤ℤ-trans, ≤ℤ-antisym, max_first, max_second, max_either}
use Rattle.decoder.proofs.Viterbi.{Survives, below, all_below, survives_path, survives_sum}

-- ---- the largest of the eight

pub at_most_largest : (m : ℕ → ℤ) (k s : ℕ) → s ≤ k → m s ≤ℤ largest_up_to k m
unfolding largest_up_to
at_most_largest m zero s h = subst (λ (x : ℕ). m x ≤ℤ m 0) {x = 0} {y = s} (omega arith) (≤ℤ_refl (m 0))
at_most_largest m (suc k) s h = go (ℕ_discrete s (suc k)) (λ l. at_most_largest m k s l)
  where
    go : Dec (s ≡ suc k) → (s ≤ k → m s ≤ℤ largest_up_to k m) → m s ≤ℤ largest_up_to (suc k) m
    go (yes e) f = subst (λ (x : ℕ). m x ≤ℤ largest_up_to (suc k) m) (sym e) (max_second (largest_up_to k m) (m (suc k)))
    go (no n) f =
        ≤ℤ-trans (m s) (largest_up_to k m) (largest_up_to (suc k) m) (f (omega (arith, n)))
        (max_first (largest_up_to k m) (m (suc k)))

-- what every state's metric is at most
pub largest_at_most : (m : ℕ → ℤ) (z : ℤ) (k : ℕ) → ((s : ℕ) → s ≤ k → m s ≤ℤ z) → largest_up_to k m ≤ℤ z
unfolding largest_up_to
largest_at_most m z zero h = h 0 (omega arith)
largest_at_most m z (suc k) h =
    max_either (λ (x : ℤ). x ≤ℤ z) (largest_up_to k m) (m (suc k)) (largest_at_most m z k (λ s l. h s (omega arith)))
    (h (suc k) (omega arith))

-- ---- a path for each last state

module _ (g : List ℤ) where
  -- from state s after n stages back along the survivors
  pub trace_from : ℕ → ℕ → ℕ → ℕ
  trace_from zero s t = s
  trace_from (suc n) s t = pick (ltb n t) s (trace_from n (survivor g n s) t)

  ends : (n s : ℕ) → trace_from n s n ≡ s
  unfolding trace_from
  ends zero s = refl
  ends (suc n) s = rw (lt-ltb n (suc n) (omega arith))

  earlier : (n s t : ℕ) → t ≤ n → trace_from (suc n) s t ≡ trace_from n (survivor g n s) t
  unfolding trace_from
  earlier n s t h = rw (le-ltb n t h)

  goes_back : (n s t : ℕ) → t < n → trace_from n s t ≡ survivor g t (trace_from n s (suc t))
  goes_back zero s t h = absurd (omega arith)
  goes_back (suc n) s t h = go (ℕ_discrete t n) (λ l. goes_back n (survivor g n s) t l)
    where
      go : Dec (t ≡ n) → (t < n → trace_from n (survivor g n s) t ≡ survivor g t (trace_from n (survivor g n s) (suc t))) →
          trace_from (suc n) s t ≡ survivor g t (trace_from (suc n) s (suc t))
      go (yes e) f =
          subst (λ (x : ℕ). trace_from (suc n) s x ≡ survivor g x (trace_from (suc n) s (suc x))) (sym e)
          (earlier n s n (omega arith) ∙ ends n (survivor g n s) ∙ ap (survivor g n) (sym (ends (suc n) s)))
      go (no q) f =
          earlier n s t (omega arith) ∙ f (omega (arith, q)) ∙ ap (survivor g t) (sym (earlier n s (suc t) (omega (arith, q))))

  survives_from : (n s : ℕ) → s < 8 → Survives g n (trace_from n s)
  survives_from n s h =
      record { last = subst (λ (x : ℕ). x < 8) (sym (ends n s)) h; back = λ t l. goes_back n s t l }

  -- the metric of a state is the largest sum of a path that ends there: some path has it, and none more
  pub reached : (n s : ℕ) → s < 8 →
      (is_path (trace_from n s) n ≡ true) × (trace_from n s n ≡ s) × (summed g (trace_from n s) n ≡ metric_after g n s)
  reached n s h =
      let i = survives_from n s h in
      (survives_path g (trace_from n s) n i, ends n s, survives_sum g (trace_from n s) n i ∙ ap (metric_after g n) (ends n s))

  pub not_above : (n s : ℕ) (q : ℕ → ℕ) → is_path q n ≡ true → q n ≡ s → summed g q n ≤ℤ metric_after g n s
  not_above n s q p e = subst (λ (x : ℕ). summed g q n ≤ℤ metric_after g n x) e (below g q n p)

  -- no path's sum is above the largest of the eight
  none_above : (n : ℕ) (q : ℕ → ℕ) → is_path q n ≡ true → summed g q n ≤ℤ largest_up_to 7 (metric_after g n)
  none_above n = all_below g n (largest_up_to 7 (metric_after g n)) (λ s h. at_most_largest (metric_after g n) 7 s (omega arith))

  -- the best metric is what the recurrence gives
  pub best_is : (n : ℕ) (p : ℕ → ℕ) (metric : ℤ) → Best n g p metric → metric ≡ largest_up_to 7 (metric_after g n)
  best_is n p metric b =
      ≤ℤ-antisym metric (largest_up_to 7 (metric_after g n))
      (subst (λ (z : ℤ). z ≤ℤ largest_up_to 7 (metric_after g n)) b.sum (none_above n p b.path))
      (largest_at_most (metric_after g n) metric 7
      (λ s h. subst (λ (z : ℤ). z ≤ℤ metric) (reached n s (omega arith)).2
      (b.largest (trace_from n s) (reached n s (omega arith)).0)))

  -- and a path that has it is a best one
  pub best_by : (n : ℕ) (p : ℕ → ℕ) (metric : ℤ) → is_path p n ≡ true → summed g p n ≡ metric →
      largest_up_to 7 (metric_after g n) ≡ metric → Best n g p metric
  best_by n p metric path sum e =
      record {
        path = path;
        sum = sum;
        largest = λ q h. subst (λ (z : ℤ). summed g q n ≤ℤ z) e (none_above n q h);
      }

-- the call's metric, for every g
pub metric_is_recurrence : (stages : ℕ) (g : List ℤ) (out : List ℕ) (code : ℕ) (metric : ℤ)
    (left : List ℕ) → Answered stages g out code metric left → code ≡ 0 → metric ≡ largest_up_to 7 (metric_after g stages)
metric_is_recurrence stages g out code metric left a e = best_is g stages (entries left) metric (a.decoded e).0

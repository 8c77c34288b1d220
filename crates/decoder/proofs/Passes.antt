-- The two passes: what the forward pass has after t stages, and what the backward pass has written from the end down to t.
use mathlib.Core.Path.{◌≡◌, refl, sym, ap, ap₂, ◌∙◌, subst}
use mathlib.Core.List.{List}
use Prim.Native.Nat.{ℕ, suc, ◌+◌, ◌*◌, ◌/◌, ◌^◌, ◌≤◌, ◌<◌}
use native.Mathlib.Decide.{ℕ_discrete}
use native.Mathlib.Omega.{arith}
use lib.IntN.{ℤ, pos, nat_abs, ◌+ℤ◌, ◌-ℤ◌}
use lib.ListN.{length, get_or, set, drop, replicate, length-set, length-replicate, get_or-replicate}
use lib.Seq.{get_or-set_same, get_or-set_other, drop-set-lt}
use lib.Signed.{lt_z}
use Rattle.bits.specs.Flags.{flag}
use Rattle.clu.specs.Tmax.{max_z}
use Rattle.decoder.specs.Trellis.{branch, new_metric, metric_after}
use Rattle.decoder.specs.Survivors.{at, Sized, from_upper, chosen, Decided, Traced}
use Rattle.decoder.specs.BestPath.{Kept}

-- ---- forward

pub record Forwarded (g : List ℤ) (t : ℕ) (metrics : List ℤ) (decisions : List ℕ) : Type 0 where
  pub states : length metrics ≡ 8
  pub sizes : Sized t metrics
  pub values : (s : ℕ) → s < 8 → at metrics s ≡ metric_after g t s
  pub decided : Decided t g decisions

-- old metrics that agree on the states give the same sums
module _ (old other b : ℕ → ℤ) (s : ℕ) (state : s < 8) (e : (k : ℕ) → k < 8 → old k ≡ other k) where
  lower_same : old (s / 2) -ℤ b s ≡ other (s / 2) -ℤ b s
  lower_same = ap (λ (x : ℤ). x -ℤ b s) (e (s / 2) (omega arith))

  upper_same : old (s / 2 + 4) +ℤ b s ≡ other (s / 2 + 4) +ℤ b s
  upper_same = ap (λ (x : ℤ). x +ℤ b s) (e (s / 2 + 4) (omega arith))

  metric_same : new_metric old b s ≡ new_metric other b s
  unfolding new_metric
  metric_same = ap₂ max_z lower_same upper_same

  decision_same : from_upper old b s ≡ from_upper other b s
  unfolding from_upper
  decision_same = ap₂ lt_z lower_same upper_same

module _ (g : List ℤ) where
  pub started : (decisions : List ℕ) → Forwarded g 0 (replicate 8 (pos 0)) decisions
  unfolding metric_after
  started decisions =
      record {
        states = length-replicate 8 (pos 0);
        sizes = λ s h. subst (λ (z : ℤ). nat_abs z ≤ 2 ^ 15 * 0) (sym (get_or-replicate 8 s (pos 0) (pos 0) h)) (omega arith);
        values = λ s h. get_or-replicate 8 s (pos 0) (pos 0) h;
        decided = λ t s h k. absurd (omega arith);
      }

  pub advanced : (t : ℕ) (old new : List ℤ) (decisions : List ℕ) (r : ℕ) → t < length decisions → Forwarded g t old decisions →
      length new ≡ 8 → Sized (t + 1) new → ((s : ℕ) → s < 8 → at new s ≡ new_metric (at old) (branch g t) s) →
      ((s : ℕ) → s < 8 → flag s r ≡ from_upper (at old) (branch g t) s) → Forwarded g (t + 1) new (set decisions t r)
  unfolding metric_after
  advanced t old new decisions r room i states sizes values bits =
      let e : t + 1 ≡ suc t = omega arith in
      record {
        states = states;
        sizes = sizes;
        values = λ s h.
            values s h ∙ metric_same (at old) (metric_after g t) (branch g t) s h i.values
            ∙ ap (λ (n : ℕ). metric_after g n s) (sym e);
        decided = decided;
      }
    where
      decided : Decided (t + 1) g (set decisions t r)
      decided u s h k = go (ℕ_discrete u t)
        where
          go : Dec (u ≡ t) → flag s (get_or (set decisions t r) u 0) ≡ from_upper (metric_after g u) (branch g u) s
          go (yes a) =
              subst (λ (x : ℕ). flag s (get_or (set decisions t r) x 0) ≡ from_upper (metric_after g x) (branch g x) s) (sym a)
              (ap (flag s) (get_or-set_same decisions t r 0 room) ∙ bits s k
              ∙ decision_same (at old) (metric_after g t) (branch g t) s k i.values)
          go (no a) = ap (flag s) (get_or-set_other decisions t u r 0 a) ∙ i.decided u s (omega (arith, a)) k

-- ---- backward

-- the entries from t, where state s stands, to the end are written
pub record Written (stages last : ℕ) (decisions out path : List ℕ) (t s : ℕ) : Type 0 where
  pub size : length path ≡ length out
  pub rest : drop (stages + 1) path ≡ drop (stages + 1) out
  pub state : s < 8
  pub here : get_or path t 0 ≡ s
  pub end : get_or path stages 0 ≡ last
  pub back : (u : ℕ) → t ≤ u → u < stages →
      get_or path u 0 ≡ chosen (flag (get_or path (suc u) 0) (get_or decisions u 0)) (get_or path (suc u) 0)

module _ (stages last : ℕ) (decisions out : List ℕ) where
  pub ended : last < 8 → stages < length out →
      Written stages last decisions (set out stages last) (set out stages last) stages last
  ended l room =
      record {
        size = refl;
        rest = refl;
        state = l;
        here = get_or-set_same out stages last 0 room;
        end = get_or-set_same out stages last 0 room;
        back = λ u h k. absurd (omega arith);
      }

  pub traced_back : (path : List ℕ) (k s r : ℕ) → suc k ≤ stages → stages < length out →
      r ≡ chosen (flag s (get_or decisions k 0)) s → r < 8 → Written stages last decisions out path (suc k) s →
      Written stages last decisions out (set path k r) k r
  traced_back path k s r below room e l i =
      record {
        size = length-set path k r ∙ i.size;
        rest = drop-set-lt (stages + 1) path k r (omega arith) ∙ i.rest;
        state = l;
        here = new;
        end = get_or-set_other path k stages r 0 (λ q. omega arith) ∙ i.end;
        back = back;
      }
    where
      new : get_or (set path k r) k 0 ≡ r
      new = get_or-set_same path k r 0 (omega (arith, i.size))

      above : (u : ℕ) → k < u → get_or (set path k r) u 0 ≡ get_or path u 0
      above u h = get_or-set_other path k u r 0 (λ q. omega arith)

      from : (u n : ℕ) → ℕ
      from u n = chosen (flag n (get_or decisions u 0)) n

      back : (u : ℕ) → k ≤ u → u < stages →
          get_or (set path k r) u 0 ≡ chosen (flag (get_or (set path k r) (suc u) 0) (get_or decisions u 0)) (get_or (set path k r) (suc u) 0)
      back u h b = go (ℕ_discrete u k)
        where
          go : Dec (u ≡ k) → get_or (set path k r) u 0 ≡ from u (get_or (set path k r) (suc u) 0)
          go (yes q) =
              subst (λ (x : ℕ). get_or (set path k r) x 0 ≡ from x (get_or (set path k r) (suc x) 0)) (sym q)
              (new ∙ e ∙ ap (from k) (sym (above (suc k) (omega arith) ∙ i.here)))
          go (no q) =
              above u (omega (arith, q)) ∙ i.back u (omega (arith, q)) b ∙ ap (from u) (sym (above (suc u) (omega arith)))

  pub all_written : (path : List ℕ) (t s : ℕ) → t ≡ 0 → Written stages last decisions (set out stages last) path t s →
      Traced stages last decisions path × Kept stages out path
  all_written path t s e i = (
    record { end = i.end; back = λ u h. i.back u (omega arith) h },
    record {
      size = i.size ∙ length-set out stages last;
      rest = i.rest ∙ drop-set-lt (stages + 1) out stages last (omega arith);
    },
  )

-- What the call answers: its codes in their order, and that the path of the two passes is a best one.
use mathlib.Core.Path.{◌≡◌, refl, sym, ap, ◌∙◌, subst}
use mathlib.Core.Logic.{◌≢◌, ◌⊎◌, inl, inr}
use mathlib.Core.Bool.{Bool, not, ◌||◌}
use mathlib.Core.List.{List}
use Prim.Native.Nat.{ℕ, zero, suc, ◌+◌, ◌-◌, ◌*◌, ◌≤◌, ◌<◌}
use native.Mathlib.Omega.{arith}
use lib.Dec.{ltb, eqb}
use lib.IntN.{ℤ, pos}
use lib.ListN.{length, get_or}
use lib.Signed.{◌≤ℤ◌}
use borrow.Author.Tests.{lt-ltb, le-ltb, eq-eqb, ne_eqb}
use Rattle.bits.specs.Flags.{flag}
use Rattle.bits.specs.Pick.{pick}
use Rattle.slots.proofs.Picks.{picked}
use Rattle.decoder.specs.Trellis.{metric_after}
use Rattle.decoder.specs.Survivors.{chosen, Decided, Traced}
use Rattle.decoder.specs.BestPath.{code_of, entries, Best, Kept, Answered}
use Rattle.decoder.proofs.Viterbi.{Survives, chosen_state, all_below, survives_path, survives_sum}

-- ---- codes

module _ (stages : ℕ) (g : List ℤ) (out : List ℕ) where
  pub over : 1024 < stages → code_of stages g out ≡ 13
  unfolding code_of
  over h = rw (lt-ltb 1024 stages h)

  pub uneven : stages ≤ 1024 → (length g ≡ 8 * stages → ⊥) → code_of stages g out ≡ 13
  unfolding code_of
  uneven h n = rw (le-ltb 1024 stages h, ne_eqb (length g) (8 * stages) n)

  pub narrow : stages ≤ 1024 → length g ≡ 8 * stages → length out < stages + 1 → code_of stages g out ≡ 14
  unfolding code_of
  narrow h e l = rw (le-ltb 1024 stages h, eq-eqb (length g) (8 * stages) e, lt-ltb (length out) (stages + 1) l)

  pub fine : stages ≤ 1024 → length g ≡ 8 * stages → stages + 1 ≤ length out → code_of stages g out ≡ 0
  unfolding code_of
  fine h e l = rw (le-ltb 1024 stages h, eq-eqb (length g) (8 * stages) e, le-ltb (length out) (stages + 1) l)

  -- there is no other code
  pub path_codes : (code_of stages g out ≡ 0) ⊎ ((code_of stages g out ≡ 13) ⊎ (code_of stages g out ≡ 14))
  unfolding code_of
  path_codes =
      picked Code (ltb 1024 stages || not (eqb (length g) (8 * stages))) 13 (pick (ltb (length out) (stages + 1)) 14 0)
      (λ _. inr (inl refl))
      (λ _. picked Code (ltb (length out) (stages + 1)) 14 0 (λ _. inr (inr refl)) (λ _. inl refl))
    where
      Code : ℕ → Type 0
      Code n = (n ≡ 0) ⊎ ((n ≡ 13) ⊎ (n ≡ 14))

  pub refuses : (code : ℕ) → code ≢ 0 → code_of stages g out ≡ code → Answered stages g out code (pos 0) out
  refuses code n e =
      record {
        given = sym e;
        decoded = λ z. absurd (n z);
        refused = λ _. (refl, refl);
      }

  pub decodes : (metric : ℤ) (left : List ℕ) → code_of stages g out ≡ 0 → Best stages g (entries left) metric → Kept stages out left →
      Answered stages g out 0 metric left
  decodes metric left e b k =
      record {
        given = sym e;
        decoded = λ _. (b, k);
        refused = λ n. absurd (n refl);
      }

-- ---- the path

module _ (stages : ℕ) (g : List ℤ) (decisions left : List ℕ) (last : ℕ) (state : last < 8)
    (decided : Decided stages g decisions) (traced : Traced stages last decisions left) where
  -- every entry is a state, from the last back
  inside : (j : ℕ) → j ≤ stages → entries left (stages - j) < 8
  inside zero h = subst (λ (s : ℕ). s < 8) (sym (ap (entries left) {x = stages - 0} {y = stages} (omega arith) ∙ traced.end)) state
  inside (suc j) h =
      let e : suc (stages - suc j) ≡ stages - j = omega arith in
      let s = entries left (suc (stages - suc j)) in
      subst (λ (s : ℕ). s < 8) (sym (traced.back (stages - suc j) (omega arith)))
      (chosen_state (flag s (get_or decisions (stages - suc j) 0)) s
      (subst (λ (n : ℕ). entries left n < 8) (sym e) (inside j (omega arith))))

  survives : Survives g stages (entries left)
  survives =
      record {
        last = subst (λ (s : ℕ). s < 8) (sym traced.end) state;
        back = λ t h.
            let s = entries left (suc t) in
            let e : stages - (stages - suc t) ≡ suc t = omega arith in
            traced.back t h
            ∙ ap (λ (b : Bool). chosen b s)
            (decided t s h (subst (λ (n : ℕ). entries left n < 8) e (inside (stages - suc t) (omega arith))));
      }

  pub best_left : (m : ℕ → ℤ) (metric : ℤ) → ((s : ℕ) → s < 8 → m s ≡ metric_after g stages s) →
      ((s : ℕ) → s < 8 → m s ≤ℤ m last) → metric ≡ m last → Best stages g (entries left) metric
  best_left m metric values largest e =
      record {
        path = survives_path g (entries left) stages survives;
        sum = survives_sum g (entries left) stages survives ∙ ap (metric_after g stages) traced.end ∙ sym is;
        largest = all_below g stages metric (λ s h. subst (λ (z : ℤ). z ≤ℤ metric) (values s h)
            (subst (λ (z : ℤ). m s ≤ℤ z) (sym e) (largest s h)));
      }
    where
      is : metric ≡ metric_after g stages last
      is = e ∙ values last state

-- An array made by calls of a closure that changes nothing: element k is what the call gives at k.
use Rattle.std.proofs.Common.{◌≡◌, refl, ℕ, zero, suc, ◌+◌, ◌<◌, List, get_or, subst, ◌∙◌, arith, add-zero, zero-add}
use Rattle.std.specs.Array.{IsFromFnResultFrom}
use Rattle.std.specs.Fn.{Mut, Called}

module _ {F : Type 0} (g : Mut F (ℕ × Unit {0}) ℕ) (f : F) (v : ℕ → ℕ)
    (h : (i y : ℕ) (f' : F) → Called g f (i, tt) y f' → (y ≡ v i) × (f' ≡ f)) where
  made_from : (ys : List ℕ) (n i : ℕ) (q : F) → q ≡ f → IsFromFnResultFrom g q ys i n → (k : ℕ) → k < n → get_or ys (i + k) 0 ≡ v (i + k)
  made_from ys zero i q e t k l = absurd (omega arith)
  made_from ys (suc n) i q e t k l =
      let one = h i t.1 t.0 (subst (λ (p : F). Called g p (i, tt) t.1 t.0) e t.3) in
      elim k as (λ k. k < suc n → get_or ys (i + k) 0 ≡ v (i + k)) [
        | zero ↦ λ l. rw add-zero (t.2.1 0 ∙ one.0)
        | suc k ↦ λ l. let next : i + suc k ≡ i + 1 + k = omega arith in rw next (made_from ys n (i + 1) t.0 one.1 t.4 k (omega arith))
      ]
      l

  pub made : (ys : List ℕ) (n k : ℕ) → IsFromFnResultFrom g f ys 0 n → k < n → get_or ys k 0 ≡ v k
  made ys n k t l = simp zero-add at (made_from ys n 0 f refl t k l)

-- A text walked part by part.
use Rattle.std.proofs.Common.{◌≡◌, ℕ, suc, ◌+◌, ◌<◌, Bool, true, false, ◌&&◌, eqb, leb, List, [], ◌∷◌, length, take, drop, refl, arith, eq-eqb, eqb-true, le-leb, leb-true}
use Rattle.bits.specs.Pick.{pick}
use Rattle.slots.proofs.Tests.{both, and_left, and_right, iff}
use Rattle.text.specs.Parts.{until, before, after, joined, split}

-- ---- a part and what is behind it

-- the byte that `until` seeks is the one that `split` seeks
same_test : (b c : ℕ) → (leb b c && leb c b) ≡ eqb c b
same_test b c =
    iff (leb b c && leb c b) (eqb c b)
    (λ e. eq-eqb c b (
    let l = leb-true b c (and_left (leb b c) _ e) in
    let r = leb-true c b (and_right (leb b c) _ e) in
    omega arith
    ))
    (λ e. let q = eqb-true c b e in both (le-leb b c (omega arith)) (le-leb c b (omega arith)))

pub split_step : (b c : ℕ) (cs : List ℕ) → split b (c ∷ cs) ≡ before b (c ∷ cs) ∷ split b (after b (c ∷ cs))
unfolding split until
split_step b c [] = rw (same_test b c) (go (eqb c b))
  where
    go : (t : Bool)
        → pick t ([] ∷ []) (joined c [])
        ≡ take (pick t 0 1) (c ∷ []) ∷ split b (drop (pick t 0 1 + 1) (c ∷ []))
    go true = refl
    go false = refl
split_step b c (d ∷ ds) = rw (same_test b c) (go (eqb c b) (split_step b d ds))
  where
    go : (t : Bool) → split b (d ∷ ds) ≡ before b (d ∷ ds) ∷ split b (after b (d ∷ ds))
        → pick t ([] ∷ split b (d ∷ ds)) (joined c (split b (d ∷ ds)))
        ≡ take (pick t 0 (suc (until b b (d ∷ ds)))) (c ∷ d ∷ ds)
        ∷ split b (drop (pick t 0 (suc (until b b (d ∷ ds))) + 1) (c ∷ d ∷ ds))
    go true e = refl
    go false e =
        let k : suc (until b b (d ∷ ds)) + 1 ≡ suc (until b b (d ∷ ds) + 1) = omega arith in
        rw (k, e) refl

-- the first of the parts of a text that is not empty, and the others
pub split_first : (b : ℕ) (cs : List ℕ) → 0 < length cs → split b cs ≡ before b cs ∷ split b (after b cs)
split_first b [] h = absurd (omega arith)
split_first b (c ∷ cs) h = split_step b c cs

pub split_none : (b : ℕ) (cs : List ℕ) → length cs ≡ 0 → split b cs ≡ []
unfolding split
split_none b [] h = refl
split_none b (c ∷ cs) h = absurd (omega arith)

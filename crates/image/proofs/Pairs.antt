-- The directory's pairs taken apart as the code takes them: the first two words, and the part from the third on.
use mathlib.Core.Path.{◌≡◌, refl, sym, ◌∙◌}
use mathlib.Core.List.{List, [], ◌∷◌}
use mathlib.Core.Bool.{Bool, true, false, ◌&&◌}
use Prim.Native.Nat.{ℕ, zero, suc, ◌+◌, ◌-◌, ◌*◌, ◌≤◌, ◌<◌}
use native.Mathlib.Nat.{add-sub_cancel_left}
use native.Mathlib.Omega.{arith}
use lib.ListN.{length, get_or, take, drop}
use lib.Seq.{take_all, get_or-drop}
use lib.Dec.{leb, ltb}
use borrow.Author.Tests.{leb-true, ltb-true, lt-ltb, le-leb, lt-leb}
use Rattle.line.specs.Lines.{sized}
use Rattle.image.specs.Directory.{in_order, line_count, directory_end, pairs_of, directory}
use Rattle.slots.proofs.Tests.{and_left, and_right}

none_left : (end low : ℕ) (l : List ℕ) → length l < 2 → in_order end low l ≡ true
unfolding in_order
none_left end low [] h = refl
none_left end low (o ∷ []) h = refl
none_left end low (o ∷ l ∷ r) h = absurd (omega arith)

-- the first pair is right, and the rest is from its end on
one_more : (end low : ℕ) (l : List ℕ) → 2 ≤ length l
    → in_order end low l
    ≡ (sized (get_or l 1 0) && leb low (get_or l 0 0) && leb (get_or l 0 0 + get_or l 1 0) end
    && in_order end (get_or l 0 0 + get_or l 1 0) (take (length l - 2) (drop 2 l)))
unfolding in_order
one_more end low [] h = absurd (omega arith)
one_more end low (o ∷ []) h = absurd (omega arith)
one_more end low (o ∷ l ∷ r) h = rw (take_all (length (o ∷ l ∷ r) - 2) r (omega arith))

-- ---- the three ways out of the walk, each from what is known there
module _ (end low : ℕ) (l : List ℕ) where
  pub pairs_none : length l < 2 → true ≡ in_order end low l
  pairs_none h = sym (none_left end low l h)

  pub pairs_good : {o k : ℕ} {r z : Bool} → 2 ≤ length l → o ≡ get_or l 0 0 → k ≡ get_or l 1 0
      → r ≡ sized k → (r && leb low o && leb (o + k) end) ≡ true
      → z ≡ in_order end (o + k) (take (length l - 2) (drop 2 l)) → z ≡ in_order end low l
  pairs_good {o} {k} {r} {z} h p q e t f =
      let s : (sized k && leb low o && leb (o + k) end) ≡ true = rw (sym e) t in
      f ∙ sym (one_more end low l h ∙ rw (sym p, sym q, s))

  pub pairs_bad : {o k : ℕ} {r : Bool} → 2 ≤ length l → o ≡ get_or l 0 0 → k ≡ get_or l 1 0
      → r ≡ sized k → (r && leb low o && leb (o + k) end) ≡ false → false ≡ in_order end low l
  pairs_bad {o} {k} {r} h p q e t =
      let s : (sized k && leb low o && leb (o + k) end) ≡ false = rw (sym e) t in
      sym (one_more end low l h ∙ rw (sym p, sym q, s))

-- ---- what pairs in order say of the i-th of them
pub pair_at : (end low : ℕ) (l : List ℕ) (i : ℕ) → in_order end low l ≡ true → 2 * i + 1 < length l
    → (sized (get_or l (2 * i + 1) 0) ≡ true) × (get_or l (2 * i) 0 + get_or l (2 * i + 1) 0 ≤ end)
unfolding in_order
pair_at end low [] i e h = absurd (omega arith)
pair_at end low (o ∷ []) i e h = absurd (omega arith)
pair_at end low (o ∷ n ∷ r) zero e h =
    let p : (sized n && leb low o && leb (o + n) end) ≡ true = and_left (sized n && leb low o && leb (o + n) end) _ e in (
      and_left (sized n) (leb low o) (and_left (sized n && leb low o) (leb (o + n) end) p),
      leb-true (o + n) end (and_right (sized n && leb low o) (leb (o + n) end) p),
    )
pair_at end low (o ∷ n ∷ r) (suc i) e h =
    rw (past (2 * i) (2 * suc i) (omega arith), past (2 * i + 1) (2 * suc i + 1) (omega arith))
    (pair_at end (o + n) r i (and_right (sized n && leb low o && leb (o + n) end) _ e) (omega arith))
  where
    past : (j k : ℕ) → k ≡ 2 + j → get_or (o ∷ n ∷ r) k 0 ≡ get_or r j 0
    past j k q = rw q (sym (get_or-drop 2 (o ∷ n ∷ r) j 0))

-- ---- what a directory that passes says of its image
pub record Passed (w : List ℕ) : Type 0 where
  pub some : 0 < length w
  pub within : directory_end w ≤ length w
  pub ordered : in_order (length w) (directory_end w) (pairs_of w) ≡ true

pub passed : (w : List ℕ) → directory w ≡ true → Passed w
unfolding directory
passed w e =
    let r = in_order (length w) (directory_end w) (pairs_of w) in
    let f : (ltb 0 (length w) && leb (directory_end w) (length w)) ≡ true =
    and_left (ltb 0 (length w) && leb (directory_end w) (length w)) r e in
    record {
      some = ltb-true 0 (length w) (and_left (ltb 0 (length w)) (leb (directory_end w) (length w)) f);
      within = leb-true (directory_end w) (length w) (and_right (ltb 0 (length w)) (leb (directory_end w) (length w)) f);
      ordered = and_right (ltb 0 (length w) && leb (directory_end w) (length w)) r e;
    }

-- the directory's pairs as the part of the image that the code lends
lent_pairs : (w : List ℕ) → take (directory_end w - 1) (drop 1 w) ≡ pairs_of w
lent_pairs w = rw (add-sub_cancel_left 1 (2 * line_count w))

module _ (w : List ℕ) where
  pub directory_short : {n : ℕ} → n ≡ directory_end w → length w < n → false ≡ directory w
  unfolding directory
  directory_short p h = rw (lt-leb (directory_end w) (length w) (omega arith)) (sym (and_no (ltb 0 (length w)) _))
    where
      and_no : (a b : Bool) → (a && false && b) ≡ false
      and_no true b = refl
      and_no false b = refl

  pub directory_walked : {n : ℕ} {r : Bool} → n ≡ directory_end w → n ≤ length w
      → r ≡ in_order (length w) n (take (n - 1) (drop 1 w)) → r ≡ directory w
  unfolding directory
  directory_walked {n} {r} p h e =
      e
      ∙ rw (p, lent_pairs w, lt-ltb 0 (length w) (omega arith), le-leb (directory_end w) (length w) (omega arith))

-- The lines of an image by their numbers, and the walk over them.
use mathlib.Core.Path.{◌≡◌, refl, sym, ◌∙◌, ap}
use mathlib.Core.List.{List, [], ◌∷◌}
use mathlib.Core.Bool.{Bool, true, false}
use Prim.Native.Nat.{ℕ, zero, suc, ◌+◌, ◌-◌, ◌*◌, ◌≤◌, ◌<◌}
use native.Mathlib.Nat.{add-sub_cancel_left}
use native.Mathlib.Numerals.{add-one}
use native.Mathlib.Omega.{arith}
use lib.ListN.{length, get_or, take, drop, length-take, length-drop}
use lib.Seq.{get_or-take, get_or-drop}
use lib.Dec.{eqb}
use borrow.Author.Tests.{ne_eqb, eqb-true, eqb-false, lt-ltb, le-ltb}
use Rattle.std.specs.Prelude.{Result, Ok, Err}
use Rattle.bits.specs.Pick.{pick}
use Rattle.bits.proofs.Integers.{by_order}
use Rattle.slots.specs.Lists.{All}
use Rattle.line.specs.Rules.{reads_verdict}
use Rattle.line.specs.Lines.{sized, read_line}
use Rattle.image.specs.Directory.{max_words, line_count, directory_end, pairs_of, directory}
use Rattle.image.specs.Check.{answer, line_at, lines_from, lines_of, line_by_line, check_of}
use Rattle.line.specs.Verdicts.{rule_code, verdict_of}
use Rattle.line.specs.declared.rules.Broken.{Broken}
use Rattle.line.proofs.RuleCodes.{some_code}
use Rattle.image.specs.declared.check.Answer.{Answer}
use Rattle.image.proofs.Pairs.{passed, pair_at}

-- ---- line i

module _ (w : List ℕ) (i : ℕ) (d : directory w ≡ true) (h : i < line_count w) where
  -- its pair is the i-th of the directory's pairs
  abbrev offset : ℕ
  offset = get_or w (1 + 2 * i) 0

  abbrev words : ℕ
  words = get_or w (2 + 2 * i) 0

  pair : (sized words ≡ true) × (offset + words ≤ length w)
  pair =
      let d = passed w d in
      let size : length (pairs_of w) ≡ 2 * line_count w = simp (length-take, length-drop) (omega (arith, d.within)) in
      rw (at (2 * i) (1 + 2 * i) (omega arith) refl, at (2 * i + 1) (2 + 2 * i) (omega arith) (omega arith)) at
      (pair_at (length w) (directory_end w) (pairs_of w) i d.ordered (omega arith))
    where
      at : (j k : ℕ) → j < 2 * line_count w → k ≡ 1 + j → get_or (pairs_of w) j 0 ≡ get_or w k 0
      at j k l q = rw q (get_or-take (2 * line_count w) (drop 1 w) j 0 l ∙ get_or-drop 1 w j 0)

  pub region_inside : offset + words ≤ length w
  region_inside = pair.1

  -- both words of its pair are there
  pub pair_inside : 2 + 2 * i < length w
  pair_inside = let d = passed w d in omega (arith, d.within)

  pub line_sized : sized (length (line_at w i)) ≡ true
  unfolding line_at
  line_sized =
      let e : length (line_at w i) ≡ words = simp (length-take, length-drop) (omega (arith, region_inside)) in
      rw e pair.0

  -- the part that the code lends, by its pair
  second : 1 + 2 * i + 1 ≡ 2 + 2 * i
  second = omega arith

  pub line_inside : offset + get_or w (1 + 2 * i + 1) 0 ≤ length w
  line_inside = rw second region_inside

  pub line_lent : take (offset + get_or w (1 + 2 * i + 1) 0 - offset) (drop offset w) ≡ line_at w i
  unfolding line_at
  line_lent = rw (second, add-sub_cancel_left offset words)

-- ---- the lines from number i on, of n lines
module _ (w : List ℕ) (i n : ℕ) where
  pub lines_none : n ≤ i → lines_from w i (n - i) ≡ []
  unfolding lines_from
  lines_none h = let e : n - i ≡ 0 = omega arith in rw e

  pub lines_next : i < n → lines_from w i (n - i) ≡ line_at w i ∷ lines_from w (i + 1) (n - (i + 1))
  unfolding lines_from
  lines_next h = let e : n - i ≡ suc (n - (i + 1)) = omega arith in rw (e, add-one i)

-- what holds of each line holds of the list
pub all_lines : (P : List ℕ → Type 0) (w : List ℕ) (i n : ℕ) → ((k : ℕ) → k < i + n → P (line_at w k))
    → All P (lines_from w i n)
unfolding lines_from
all_lines P w i zero each = tt
all_lines P w i (suc n) each = (each i (omega arith), all_lines P w (suc i) n (λ k h. each k (omega arith)))

pub lines_counted : (w : List ℕ) (i n : ℕ) → length (lines_from w i n) ≡ n
unfolding lines_from
lines_counted w i zero = refl
lines_counted w i (suc n) = ap suc (lines_counted w (suc i) n)

-- ---- a line that breaks no rule, before lines that break none

both_accepted : (v : List ℕ) (ws : List (List ℕ)) (k : ℕ) → (line_by_line k (v ∷ ws)).code ≡ 0
    → ((reads_verdict (read_line v)).code ≡ 0) × ((line_by_line (suc k) ws).code ≡ 0)
unfolding line_by_line
both_accepted v ws k e = go (eqb (reads_verdict (read_line v)).code 0) refl
  where
    go : (b : Bool) → b ≡ eqb (reads_verdict (read_line v)).code 0
        → ((reads_verdict (read_line v)).code ≡ 0) × ((line_by_line (suc k) ws).code ≡ 0)
    go true t = (eqb-true _ 0 (sym t), rw (← t) at e)
    go false f = absurd (eqb-false _ 0 (sym f) (rw (← f) at e))

-- line j of n lines from number i on
unbroken : (w : List ℕ) (k i n j : ℕ) → (line_by_line k (lines_from w i n)).code ≡ 0 → i ≤ j → j < i + n
    → (reads_verdict (read_line (line_at w j))).code ≡ 0
unfolding lines_from
unbroken w k i zero j e l h = absurd (omega arith)
unbroken w k i (suc n) j e l h =
    let b = both_accepted (line_at w i) (lines_from w (suc i) n) k e in
    by_order ((reads_verdict (read_line (line_at w j))).code ≡ 0) (suc i) j
    (λ m. unbroken w (suc k) (suc i) n j b.1 m (omega arith))
    (λ m. let q : j ≡ i = omega arith in rw q b.0)

pub line_unbroken : (w : List ℕ) (i : ℕ) → (line_by_line 0 (lines_of w)).code ≡ 0 → i < line_count w
    → (reads_verdict (read_line (line_at w i))).code ≡ 0
line_unbroken w i e h = unbroken w 0 0 (line_count w) i e (omega arith) (omega arith)

-- ---- the check's walk, at line k of n
module _ (w : List ℕ) (k : ℕ) where
  pub at_end : {n : ℕ} → n ≤ k → answer 0 0 0 ≡ line_by_line k (lines_from w k (n - k))
  unfolding line_by_line
  at_end {n} h = rw (lines_none w k n h)

  module _ {n : ℕ} (h : k < n) {line : List ℕ} (l : line ≡ line_at w k) where
    here : line_by_line k (lines_from w k (n - k))
        ≡ pick (eqb (reads_verdict (read_line line)).code 0) (line_by_line (suc k) (lines_from w (k + 1) (n - (k + 1))))
        (answer (reads_verdict (read_line line)).code k (reads_verdict (read_line line)).slot)
    unfolding line_by_line
    here = rw (lines_next w k n h, l)

    module _ {a : Result (Unit {0}) Broken} (e : verdict_of a ≡ reads_verdict (read_line line)) where
      pub line_good : {x : Unit {0}} → a ≡ Ok x
          → line_by_line k (lines_from w k (n - k)) ≡ line_by_line (k + 1) (lines_from w (k + 1) (n - (k + 1)))
      line_good q = here ∙ rw (← e, q, add-one k)

      -- after lines that break no rule
      pub first_bad : {b : Broken} → a ≡ Err b → line_by_line 0 (lines_of w) ≡ line_by_line k (lines_from w k (n - k))
          → answer (rule_code b.rule) k b.slot ≡ line_by_line 0 (lines_of w)
      first_bad {b} q before = sym (before ∙ here ∙ rw (← e, q, ne_eqb (rule_code b.rule) 0 (some_code b.rule)))

-- ---- the check call's ways out
module _ (w : List ℕ) where
  pub check_long : 16384 < length w → answer 1 0 0 ≡ check_of w
  unfolding check_of
  check_long h = rw (lt-ltb max_words (length w) h)

  pub check_bad : {r : Bool} → length w ≤ 16384 → r ≡ directory w → r ≡ false → answer 2 0 0 ≡ check_of w
  unfolding check_of
  check_bad h e f = rw (le-ltb max_words (length w) h, ← e, f)

  pub check_walked : {r : Bool} {a : Answer} → length w ≤ 16384 → r ≡ directory w → r ≡ true
      → a ≡ line_by_line 0 (lines_of w) → a ≡ check_of w
  unfolding check_of
  check_walked h e f q = q ∙ rw (le-ltb max_words (length w) h, ← e, f)

-- A case: the parts that its record lends to the calls, and the verdict by what each of them answers.
use mathlib.Core.Path.{◌≡◌, refl, ap, ◌∙◌}
use Rattle.std.proofs.Common.{MatchResult, IsErrAnd}
use mathlib.Core.List.{List}
use Prim.Native.Nat.{ℕ, ◌+◌, ◌-◌, ◌*◌}
use native.Mathlib.Omega.{arith}
use lib.ListN.{length, get_or, take, drop, length-take, length-drop}
use borrow.Author.Tests.{eq-eqb}
use Rattle.image.specs.Check.{check_of}
use Rattle.image.specs.declared.check.Answer.{Answer}
use Rattle.machine.specs.Machine.{Machine, machine}
use Rattle.machine.specs.declared.state.State.{State}
use Rattle.runs.specs.Plain.{End, plain_run}
use Rattle.ordered.specs.Ordered.{ordered_run}
use Rattle.replay.specs.Compare.{difference_from}
use Rattle.layout.specs.Layout.{state_words, state_from}
use Rattle.replay.specs.Record.{Fill}
use Rattle.replay.specs.Outcome.{answer_numbers, run_numbers, end_numbers}
use Rattle.replay.specs.Case.{section, image_of, machine_in, limit_of, run_words, check_compared, plain_compared, ordered_compared, first_of}
use Rattle.replay.specs.declared.compare.Difference.{Difference}
use Rattle.std.specs.declared.result.Result.{Result}
use Rattle.std.specs.declared.result.Result.TheVariants.{Ok, Err}
use Rattle.replay.specs.declared.record.Parts.{Parts}
use Rattle.replay.specs.declared.case.Failure.{Failure}

-- a part that is lent from its start to its end
pub lent_part : (at n end : ℕ) (w : List ℕ) → end ≡ at + n → take (end - at) (drop at w) ≡ section at n w
lent_part at n end w e = let k : end - at ≡ n = omega arith in rw k refl

module _ (w : List ℕ) (p : Parts) where
  image_lent : take (1 + p.image - 1) (drop 1 w) ≡ image_of w p
  image_lent = lent_part 1 p.image (1 + p.image) w refl

  pub check_compared_lem : {a : Answer} {x : Result Unit Difference} → a ≡ check_of (take (1 + p.image - 1) (drop 1 w))
      → x ≡ difference_from 0 (take (p.check + 3 - p.check) (drop p.check w)) (answer_numbers a) → x ≡ check_compared w p
  unfolding check_compared
  check_compared_lem e q = q ∙ rw (e, image_lent, lent_part p.check 3 (p.check + 3) w refl) refl

  pub started : (f : Fill p (length w)) {s : State} (held : List ℕ)
      → held ≡ take (p.state - (2 + p.image)) (drop (2 + p.image) w)
      → s ≡ state_from (take (p.state + state_words - p.state) (drop p.state w)) → machine s held ≡ machine_in w p
  started f held e q =
      let a = lent_part (2 + p.image) p.memory p.state w f.state_at in
      let b = lent_part p.state state_words (p.state + state_words) w refl in
      let n : length (section p.state state_words w) ≡ state_words =
      simp (length-take, length-drop) (omega (arith, f.state_at, f.limit_at, f.ordered_at, f.ends)) in
      let h = eq-eqb (length (section p.state state_words w)) state_words n in
      rw (q, e, a, b, h) refl

  -- the numbers that a run is compared with, for a memory of n words
  numbers_lent : (at n : ℕ) → n ≡ p.memory → take (at + run_numbers + n - at) (drop at w) ≡ section at (run_words p) w
  numbers_lent at n e = lent_part at (run_words p) (at + run_numbers + n) w (omega arith)

  module _ (n : ℕ) (l : n ≡ p.memory) {m : Machine} (e : m ≡ machine_in w p) {x : End} {r : Result Unit Difference} where
    pub plain_compared_lem : x ≡ plain_run (take (1 + p.image - 1) (drop 1 w)) m
        → r ≡ difference_from 0 (take (p.plain + run_numbers + n - p.plain) (drop p.plain w)) (end_numbers x)
        → r ≡ plain_compared w p
    unfolding plain_compared
    plain_compared_lem q k = k ∙ rw (q, e, image_lent, numbers_lent p.plain n l) refl

    pub ordered_compared_lem : (bs : List ℕ) {limit : ℕ} → limit ≡ limit_of (get_or w p.limit 0) (get_or w (p.limit + 1) 0)
        → x ≡ ordered_run (take (1 + p.image - 1) (drop 1 w))
        (take (4 * (p.state + state_words + 1) + p.orders - 4 * (p.state + state_words + 1)) (drop (4 * (p.state + state_words + 1)) bs)) limit m
        → r ≡ difference_from 0 (take (p.ordered + run_numbers + n - p.ordered) (drop p.ordered w)) (end_numbers x)
        → r ≡ ordered_compared bs w p
    unfolding ordered_compared
    ordered_compared_lem bs t q k =
        let at = 4 * (p.state + state_words + 1) in
        k ∙ rw (q, e, t, image_lent, lent_part at p.orders (at + p.orders) bs refl, numbers_lent p.ordered n l) refl

-- ---- the verdict

-- what a call's difference is turned into, and how the cases that are left come out where there is none
module _ (call : Difference → Failure) (x : Result Unit Difference) (m v : Result Unit Failure)
    (e : MatchResult x (λ u. m ≡ Ok u) (λ d. IsErrAnd m (λ f. f ≡ call d))) where
  pub stopped : {f : Failure} → m ≡ Err f → m ≡ first_of call x v
  stopped q = go x e
    where
      go : (x : Result Unit Difference) → MatchResult x (λ u. m ≡ Ok u) (λ d. IsErrAnd m (λ f. f ≡ call d)) → m ≡ first_of call x v
      go (Ok u) h = absurd (cc)
      go (Err d) h = let k = rw q at h in q ∙ ap Err k

  pub passed : {u : Unit {0}} → m ≡ Ok u → v ≡ first_of call x v
  passed q = go x e
    where
      go : (x : Result Unit Difference) → MatchResult x (λ u. m ≡ Ok u) (λ d. IsErrAnd m (λ f. f ≡ call d)) → v ≡ first_of call x v
      go (Ok u) h = refl
      go (Err d) h = absurd (rw q at h)

  pub mapped : m ≡ first_of call x (Ok tt)
  mapped = go x m e
    where
      go : (x : Result Unit Difference) (m : Result Unit Failure) → MatchResult x (λ u. m ≡ Ok u) (λ d. IsErrAnd m (λ f. f ≡ call d))
          → m ≡ first_of call x (Ok tt)
      go (Ok u) m h = h
      go (Err d) (Err f) h = ap Err h
      go (Err d) (Ok u) h = absurd h

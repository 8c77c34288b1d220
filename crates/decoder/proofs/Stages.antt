-- A stage of the forward pass: its states from 7 down, each with its new metric and its decision bit.
use mathlib.Core.Path.{◌≡◌, sym, ap, ap₂, ◌∙◌, subst}
use mathlib.Core.Bool.{Bool, true, false}
use mathlib.Core.List.{List}
use Prim.Native.Nat.{ℕ, zero, suc, ◌+◌, ◌-◌, ◌*◌, ◌/◌, ◌^◌, ◌≤◌, ◌<◌}
use native.Mathlib.Decide.{ℕ_discrete}
use native.Mathlib.Omega.{arith}
use lib.IntN.{ℤ, pos, nat_abs, ◌+ℤ◌, ◌-ℤ◌}
use lib.ListN.{length, get_or, set, length-set}
use lib.Seq.{get_or-set_same, get_or-set_other}
use lib.Signed.{mag, lt_z, nat_abs-le}
use mir.Syntax.{w16}
use mir.Val.{to_z, of_z}
use mir.Facts.{to_z-of_z}
use Rattle.std.proofs.lemmas.Int.{ints}
use Rattle.bits.specs.Flags.{bit, flag}
use Rattle.bits.proofs.FlagLaws.{flag_lowest, flag_next}
use Rattle.clu.specs.Tmax.{max_z}
use Rattle.decoder.specs.Trellis.{branch, new_metric}
use Rattle.decoder.specs.Survivors.{at, Sized, from_upper}
use Rattle.decoder.proofs.Order.{sum_size, difference_size, max_either}
use Rattle.bits.proofs.SignedWords.{read, read_is}

-- the states from s up are done: metrics m, of size at most z, and decisions d of the new stage
pub record Done (z : ℕ) (m : ℕ → ℤ) (d : ℕ → Bool) (s : ℕ) (new : List ℤ) (decisions : ℕ) : Type 0 where
  pub states : length new ≡ 8
  pub byte : decisions < 2 ^ (8 - s)
  pub metrics : (k : ℕ) → s ≤ k → k < 8 → get_or new k (pos 0) ≡ m k
  pub sizes : (k : ℕ) → s ≤ k → k < 8 → nat_abs (get_or new k (pos 0)) ≤ z
  pub bits : (j : ℕ) → s + j < 8 → flag j decisions ≡ d (s + j)

module _ (z : ℕ) (m : ℕ → ℤ) (d : ℕ → Bool) where
  twice : (b : Bool) (n k : ℕ) → k < 8 → n < 2 ^ (8 - suc k) → bit b + 2 * n < 2 ^ (8 - k)
  twice b n k h l =
      let e : 8 - k ≡ suc (8 - suc k) = omega arith in
      subst (λ (i : ℕ). bit b + 2 * n < 2 ^ i) (sym e) (go b)
    where
      go : (b : Bool) → bit b + 2 * n < 2 ^ suc (8 - suc k)
      go true = omega arith
      go false = omega arith

  pub one_more : (k : ℕ) (new : List ℤ) (n : ℕ) (r : ℤ) (b : Bool) → k < 8 → r ≡ m k → nat_abs r ≤ z → b ≡ d k → Done z m d (suc k) new n →
      Done z m d k (set new k r) (bit b + 2 * n)
  one_more k new n r b h e g f i =
      record {
        states = length-set new k r ∙ i.states;
        byte = twice b n k h i.byte;
        metrics = entries (λ (j : ℕ) (x : ℤ). x ≡ m j) e i.metrics;
        sizes = entries (λ (j : ℕ) (x : ℤ). nat_abs x ≤ z) g i.sizes;
        bits = bits;
      }
    where
      -- what holds of the new entry and of those above it
      entries : (P : ℕ → ℤ → Type 0) → P k r → ((j : ℕ) → suc k ≤ j → j < 8 → P j (get_or new j (pos 0))) →
          (j : ℕ) → k ≤ j → j < 8 → P j (get_or (set new k r) j (pos 0))
      entries P p q j l u = go (ℕ_discrete j k)
        where
          go : Dec (j ≡ k) → P j (get_or (set new k r) j (pos 0))
          go (yes a) =
              subst (λ (x : ℕ). P x (get_or (set new k r) x (pos 0))) (sym a)
              (subst (P k) (sym (get_or-set_same new k r (pos 0) (omega (arith, i.states)))) p)
          go (no a) = subst (P j) (sym (get_or-set_other new k j r (pos 0) a)) (q j (omega (arith, a)) u)

      bits : (j : ℕ) → k + j < 8 → flag j (bit b + 2 * n) ≡ d (k + j)
      bits zero u = flag_lowest b n ∙ f ∙ ap d {x = k} {y = k + 0} (omega arith)
      bits (suc j) u =
          flag_next j b n ∙ i.bits j (omega arith) ∙ ap d {x = suc k + j} {y = k + suc j} (omega arith)

-- an old metric is read back as it is
metric_read : (z : ℤ) → nat_abs z ≤ 2 ^ 30 → read z ≡ z
metric_read z h = omega (arith, ints)

-- ---- what `choose` answers for state k, from the old metrics and the stage's branch values

module _ (old g : List ℤ) (t k : ℕ) (early : t < 1024) (state : k < 8) (sized : Sized t old) where
  lower : nat_abs (at old (k / 2)) ≤ 2 ^ 30
  lower = omega (arith, sized (k / 2) (omega arith))

  upper : nat_abs (at old (k / 2 + 4)) ≤ 2 ^ 30
  upper = omega (arith, sized (k / 2 + 4) (omega arith))

  module _ (short : mag (branch g t k) < 2 ^ 15) where
    value_is : to_z w16 (of_z w16 (branch g t k)) ≡ branch g t k
    value_is = to_z-of_z {w = w16} (record { sfits = short })

    lower_is : read (at old (k / 2)) -ℤ to_z w16 (of_z w16 (branch g t k)) ≡ at old (k / 2) -ℤ branch g t k
    lower_is = ap₂ ◌-ℤ◌ (metric_read (at old (k / 2)) lower) value_is

    upper_is : read (at old (k / 2 + 4)) +ℤ to_z w16 (of_z w16 (branch g t k)) ≡ at old (k / 2 + 4) +ℤ branch g t k
    upper_is = ap₂ ◌+ℤ◌ (metric_read (at old (k / 2 + 4)) upper) value_is

    pub metric_is : (r : ℤ) → mag r < 2 ^ 31 →
        r ≡ max_z (read (at old (k / 2)) -ℤ to_z w16 (of_z w16 (branch g t k)))
        (read (at old (k / 2 + 4)) +ℤ to_z w16 (of_z w16 (branch g t k))) →
        read r ≡ new_metric (at old) (branch g t) k
    unfolding new_metric
    metric_is r f e = read_is r f ∙ e ∙ ap₂ max_z lower_is upper_is

    pub metric_size : nat_abs (new_metric (at old) (branch g t) k) ≤ 2 ^ 15 * (t + 1)
    unfolding new_metric
    metric_size =
        let b = nat_abs-le (branch g t k) short in
        max_either (λ (z : ℤ). nat_abs z ≤ 2 ^ 15 * (t + 1)) (at old (k / 2) -ℤ branch g t k) (at old (k / 2 + 4) +ℤ branch g t k)
        (omega (arith, difference_size (at old (k / 2)) (branch g t k), sized (k / 2) (omega arith), b))
        (omega (arith, sum_size (at old (k / 2 + 4)) (branch g t k), sized (k / 2 + 4) (omega arith), b))

    pub decision_is : (b : Bool) →
        b ≡ lt_z (read (at old (k / 2)) -ℤ to_z w16 (of_z w16 (branch g t k)))
        (read (at old (k / 2 + 4)) +ℤ to_z w16 (of_z w16 (branch g t k))) →
        b ≡ from_upper (at old) (branch g t) k
    unfolding from_upper
    decision_is b e = e ∙ ap₂ lt_z lower_is upper_is

-- The verdict of the pass over a line's slots is the verdict on them.
use mathlib.Core.Path.{◌≡◌, refl}
use mathlib.Core.List.{List, [], ◌∷◌}
use mathlib.Core.Bool.{Bool, false}
use Prim.Native.Nat.{ℕ, zero, suc, ◌≤◌}
use native.Mathlib.Omega.{arith}
use lib.ListN.{length, take, length-take}
use lib.Dec.{eqb}
use Rattle.slots.specs.Lists.{some, All}
use Rattle.slots.specs.declared.slot.Slot.{Slot}
use Rattle.slots.proofs.Tests.{neither_left, neither_right}
use Rattle.slots.proofs.Valid.{Valid}
use Rattle.line.specs.Rules.{unit_of, rule4, rule5, rule6, rule7, slots_verdict}
use Rattle.line.specs.Pass.{chosen}
use Rattle.line.proofs.Noted.{noted_is}
use Rattle.line.proofs.SlotsSeen.{seen_in, breaks4, breaks5, breaks6, breaks7, noted_in_lem}
use Rattle.line.proofs.Counts.{Good, four_more, six_more}
use Rattle.line.proofs.Units.{five_more}
use Rattle.line.proofs.StoredTwice.{seven_more}

-- ---- slots 0..s of a line

all_take : (P : Slot → Type 0) (n : ℕ) (xs : List Slot) → All P xs → All P (take n xs)
all_take P zero xs a = tt
all_take P (suc n) [] a = tt
all_take P (suc n) (x ∷ xs) a = (a.0, all_take P n xs a.1)

good_take : (n : ℕ) (xs : List Slot) → Good xs → Good (take n xs)
good_take n xs (h, v) = (simp length-take (omega arith), all_take Valid n xs v)

some_take : (f : Slot → Bool) (n : ℕ) (xs : List Slot) → some f xs ≡ false → some f (take n xs) ≡ false
some_take f zero xs e = refl
some_take f (suc n) [] e = refl
some_take f (suc n) (x ∷ xs) e =
    rw (neither_left (f x) (some f xs) e) (some_take f n xs (neither_right (f x) (some f xs) e))

rule5_take : (n : ℕ) (xs : List Slot) → rule5 xs ≡ false → rule5 (take n xs) ≡ false
rule5_take zero xs e = refl
rule5_take (suc n) [] e = refl
rule5_take (suc n) (x ∷ xs) e =
    rw (some_take (λ y. eqb (unit_of x) (unit_of y)) n xs (neither_left (some (λ y. eqb (unit_of x) (unit_of y)) xs) (rule5 xs) e))
    (rule5_take n xs (neither_right (some (λ y. eqb (unit_of x) (unit_of y)) xs) (rule5 xs) e))

-- ---- the rules in their order

pub slots_verdict_lem : (xs : List Slot) → length xs ≤ 4 → All Valid xs → chosen (seen_in xs).noted ≡ slots_verdict xs
unfolding chosen slots_verdict
slots_verdict_lem xs h v =
    rw (noted_in_lem xs h)
    (noted_is 4 _ _ rule4 breaks4 Good refl four_more good_take xs h (h, v)
    (λ _. noted_is 5 _ _ rule5 breaks5 Good refl (λ ps x g. five_more ps x g.0) good_take xs h (h, v)
    (λ e. noted_is 6 _ _ rule6 breaks6 Good refl six_more good_take xs h (h, v)
    (λ _. noted_is 7 _ _ rule7 breaks7 (λ ys. All Valid ys × (rule5 ys ≡ false)) refl
    (λ ps x g. seven_more ps x g.0 g.1) (λ n ys g. (all_take Valid n ys g.0, rule5_take n ys g.1)) xs h (v, e)
    (λ _. refl)))))

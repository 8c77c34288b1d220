-- How many pairs the check of a line compares (document 02, Note 7): at most six, none of one slot, and all where no two slots are on
-- one unit.
use mathlib.Core.Path.{◌≡◌, refl, sym, ap, ◌∙◌}
use mathlib.Core.List.{List, [], ◌∷◌, ◌++◌, map, append-nil, append_assoc}
use mathlib.Core.Bool.{Bool, true, false, ◌||◌, or-false, or_assoc}
use Prim.Native.Nat.{suc, ◌≤◌}
use native.Mathlib.Omega.{arith}
use lib.ListN.{length}
use lib.Dec.{ltb, eqb}
use borrow.Author.Tests.{ltb-false}
use Rattle.std.specs.Prelude.{Result, Ok, Err}
use Rattle.bits.specs.Pick.{pick}
use Rattle.slots.specs.Lists.{some, twice, total, count}
use Rattle.slots.specs.Conditionals.{unconditional}
use Rattle.slots.specs.declared.slot.Slot.{Slot}
use Rattle.slots.specs.declared.conditional_slot.Conditional.{Conditional}
use Rattle.slots.specs.declared.slot.SlotRefusal.{SlotRefusal}
use Rattle.slots.proofs.Picks.{picked}
use Rattle.slots.proofs.Tests.{neither_left, neither_right}
use Rattle.line.specs.Rules.{unit_of, wide, positions, rule3, rule15, rule16, rule4, rule5, slots_of}
use Rattle.pairs.specs.Pairs.{up_to_first, pairs_after, slot_pairs, on_one_unit, pairs_compared, refused_before5, pairs_reported}
use Rattle.sets.proofs.PlaceLists.{some_append}
use Rattle.line.proofs.Units.{twice_more}

-- ---- up to and with the first of a list

first_few : {A : Type 0} (f : A → Bool) (xs : List A) → length (up_to_first f xs) ≤ length xs
first_few f [] = omega arith
first_few f (x ∷ xs) = go (f x) (first_few f xs)
  where
    go : (b : Bool) → length (up_to_first f xs) ≤ length xs → suc (length (pick b [] (up_to_first f xs))) ≤ suc (length xs)
    go true h = omega arith
    go false h = omega arith

-- where the test holds of none
first_none : {A : Type 0} (f : A → Bool) (xs : List A) → some f xs ≡ false → up_to_first f xs ≡ xs
first_none f [] e = refl
first_none f (x ∷ xs) e =
    rw (neither_left (f x) (some f xs) e) (ap (λ ys. x ∷ ys) (first_none f xs (neither_right (f x) (some f xs) e)))

-- ---- the pairs of a line's slots

compared_few : (xs : List Slot) → length xs ≤ 4 → pairs_compared xs ≤ 6
unfolding pairs_compared
compared_few xs h = let l = first_few on_one_unit (slot_pairs xs) in let p = pairs_few xs h in omega arith
  where
    pairs_few : (xs : List Slot) → length xs ≤ 4 → length (slot_pairs xs) ≤ 6
    pairs_few [] h = omega arith
    pairs_few (a ∷ []) h = omega arith
    pairs_few (a ∷ b ∷ []) h = omega arith
    pairs_few (a ∷ b ∷ c ∷ []) h = omega arith
    pairs_few (a ∷ b ∷ c ∷ d ∷ []) h = omega arith
    pairs_few (a ∷ b ∷ c ∷ d ∷ x ∷ xs) h = absurd (omega arith)

compared_one : (xs : List Slot) → length xs ≤ 1 → pairs_compared xs ≡ 0
unfolding pairs_compared
compared_one [] h = refl
compared_one (a ∷ []) h = refl
compared_one (a ∷ b ∷ xs) h = absurd (omega arith)

some_paired : {A B : Type 0} (f : B → Bool) (g : A → B) (xs : List A) → some f (map g xs) ≡ some (λ x. f (g x)) xs
some_paired f g [] = refl
some_paired f g (x ∷ xs) = ap (λ (t : Bool). f (g x) || t) (some_paired f g xs)

-- two of a list are the same: two of those before, or a pair with a later one
twice_paired : {A : Type 0} (same : A → A → Bool) (before xs : List A)
    → twice same (before ++ xs) ≡ (twice same before || some (λ p. same p.0 p.1) (pairs_after before xs))
twice_paired same before [] = rw (append-nil before) (sym (or-false (twice same before)))
twice_paired {A} same before (x ∷ xs) =
    ap (twice same) (sym (append_assoc before (x ∷ []) xs))
    ∙ twice_paired same (before ++ (x ∷ [])) xs
    ∙ rw (
      twice_more same before x,
      some_append test (map (λ e. (e, x)) before) (pairs_after (before ++ (x ∷ [])) xs),
      some_paired test (λ e. (e, x)) before,
    )
    (or_assoc (twice same before) (some (λ y. same y x) before) (some test (pairs_after (before ++ (x ∷ [])) xs)))
  where
    test : A × A → Bool
    test p = same p.0 p.1

-- rule 5 is broken exactly where one of the pairs is on one unit
pub unit_pairs : (xs : List Slot) → rule5 xs ≡ some on_one_unit (slot_pairs xs)
unit_pairs xs = twice_paired (λ x y. eqb (unit_of x) (unit_of y)) [] xs

-- a line that rule 5 does not refuse has all its pairs compared
pub compared_all : (xs : List Slot) → rule5 xs ≡ false → pairs_compared xs ≡ length (slot_pairs xs)
unfolding pairs_compared
compared_all xs e = ap length (first_none on_one_unit (slot_pairs xs) (sym (unit_pairs xs) ∙ e))

-- ---- what the check of a line reports

-- a slot takes a position at least
positions_many : (xs : List Slot) → length xs ≤ total positions xs
positions_many [] = omega arith
positions_many (x ∷ xs) = let h = positions_many xs in let p = some_position (wide x) in omega arith
  where
    some_position : (b : Bool) → 1 ≤ pick b 2 1
    some_position true = omega arith
    some_position false = omega arith

-- so that a line which rule 4 does not refuse has at most four slots
four_slots : (xs : List Slot) → rule4 xs ≡ false → length xs ≤ 4
four_slots xs e =
    let h = ltb-false 4 (total positions xs) (neither_left (ltb 4 (total positions xs)) (ltb 1 (count wide xs)) e) in
    let p = positions_many xs in
    omega arith

pub reported_few : (rs : List (Result Conditional SlotRefusal)) → pairs_reported rs ≤ 6
unfolding pairs_reported
reported_few rs =
    let xs = unconditional (slots_of rs) in
    picked (λ n. n ≤ 6) (refused_before5 rs) 0 (pairs_compared xs) (λ _. omega arith)
    (λ e. compared_few xs (four_slots xs (neither_right (rule3 rs || rule15 rs || rule16 rs) (rule4 xs) e)))

-- no more slots than were read
slots_few : (rs : List (Result Conditional SlotRefusal)) → length (unconditional (slots_of rs)) ≤ length rs
slots_few [] = omega arith
slots_few (Ok x ∷ rs) = let h = slots_few rs in omega arith
slots_few (Err e ∷ rs) = let h = slots_few rs in omega arith

pub reported_one : (rs : List (Result Conditional SlotRefusal)) → length rs ≤ 1 → pairs_reported rs ≡ 0
unfolding pairs_reported
reported_one rs h =
    picked (λ n. n ≡ 0) (refused_before5 rs) 0 (pairs_compared (unconditional (slots_of rs))) (λ _. refl)
    (λ _. compared_one (unconditional (slots_of rs)) (omega (arith, slots_few rs)))

-- The first slot or pair of slots, of at most four, that breaks a rule: the code finds it by a chain of tests.
use mathlib.Core.Path.{◌≡◌, refl}
use mathlib.Core.List.{List, [], ◌∷◌}
use mathlib.Core.Bool.{Bool, true, false, ◌||◌}
use Prim.Native.Nat.{ℕ, suc, ◌≤◌}
use native.Mathlib.Omega.{arith}
use lib.ListN.{length}
use Rattle.std.specs.Prelude.{Option, Some, None}
use Rattle.bits.specs.Pick.{pick}
use Rattle.slots.specs.Lists.{some, twice, nth_of}
use Rattle.line.specs.Rules.{verdict, refuse}
use Rattle.line.specs.Pass.{refuse_at}
use Rattle.line.specs.Verdicts.{Verdict}

-- the first of four that holds
abbrev pub first_at : Bool → Bool → Bool → Bool → ℕ
first_at p q r s = pick p 0 (suc (pick q 0 (suc (pick r 0 (suc (pick s 0 1))))))

-- ---- one slot

-- the first of four that holds, if any
abbrev pub first_one : Bool → Bool → Bool → Bool → Option ℕ
first_one p q r s = pick p (Some 0) (pick q (Some 1) (pick r (Some 2) (pick s (Some 3) None)))

module _ (code : ℕ) (z y : Verdict) where
  ones_1 : (p : Bool) → ((p || false) ≡ false → z ≡ y)
      → refuse_at code (first_one p false false false) z
      ≡ pick (p || false) (verdict code (first_at (p || false) (p || false) (p || false) (p || false))) y
  ones_1 true k = refl
  ones_1 false k = k refl

  ones_2 : (p q : Bool) → ((p || (q || false)) ≡ false → z ≡ y)
      → refuse_at code (first_one p q false false) z
      ≡ pick (p || (q || false))
      (verdict code (first_at (p || false) (p || (q || false)) (p || (q || false)) (p || (q || false)))) y
  ones_2 true q k = refl
  ones_2 false true k = refl
  ones_2 false false k = k refl

  ones_3 : (p q r : Bool) → ((p || (q || (r || false))) ≡ false → z ≡ y)
      → refuse_at code (first_one p q r false) z
      ≡ pick (p || (q || (r || false)))
      (verdict code (first_at (p || false) (p || (q || false)) (p || (q || (r || false))) (p || (q || (r || false))))) y
  ones_3 true q r k = refl
  ones_3 false true r k = refl
  ones_3 false false true k = refl
  ones_3 false false false k = k refl

  ones_4 : (p q r s : Bool) → ((p || (q || (r || (s || false)))) ≡ false → z ≡ y)
      → refuse_at code (first_one p q r s) z
      ≡ pick (p || (q || (r || (s || false))))
      (verdict code
      (first_at (p || false) (p || (q || false)) (p || (q || (r || false))) (p || (q || (r || (s || false)))))) y
  ones_4 true q r s k = refl
  ones_4 false true r s k = refl
  ones_4 false false true s k = refl
  ones_4 false false false true k = refl
  ones_4 false false false false k = k refl

  pub first_slot : {A C : Type 0} (of : A → C) (none : C) (test : C → Bool) (breaks : A → Bool)
      → ((x : A) → test (of x) ≡ breaks x) → test none ≡ false → (xs : List A) → length xs ≤ 4
      → (some breaks xs ≡ false → z ≡ y)
      → refuse_at code
      (first_one (test (nth_of of none 0 xs)) (test (nth_of of none 1 xs)) (test (nth_of of none 2 xs)) (test (nth_of of none 3 xs)))
      z
      ≡ refuse code (some breaks) xs y
  first_slot of none test breaks e n [] h k = rw n (k refl)
  first_slot of none test breaks e n (a ∷ []) h k = rw (n, e a) (ones_1 (breaks a) k)
  first_slot of none test breaks e n (a ∷ b ∷ []) h k = rw (n, e a, e b) (ones_2 (breaks a) (breaks b) k)
  first_slot of none test breaks e n (a ∷ b ∷ c ∷ []) h k =
      rw (n, e a, e b, e c) (ones_3 (breaks a) (breaks b) (breaks c) k)
  first_slot of none test breaks e n (a ∷ b ∷ c ∷ d ∷ []) h k =
      rw (e a, e b, e c, e d) (ones_4 (breaks a) (breaks b) (breaks c) (breaks d) k)
  first_slot of none test breaks e n (a ∷ b ∷ c ∷ d ∷ x ∷ xs) h k = absurd (omega arith)

-- ---- a pair of slots

-- the later slot of the first pair, pairs by their later slot, then by their earlier one: ab says that a and b are a pair
abbrev pub first_pair : Bool → Bool → Bool → Bool → Bool → Bool → Option ℕ
first_pair ab ac bc ad bd cd =
    pick ab (Some 1) (pick ac (Some 2) (pick bc (Some 2) (pick ad (Some 3) (pick bd (Some 3) (pick cd (Some 3) None)))))

-- whether two, three and four slots have a pair
abbrev two : Bool → Bool
two ab = (ab || false) || false

abbrev three : Bool → Bool → Bool → Bool
three ab ac bc = (ab || (ac || false)) || ((bc || false) || false)

abbrev four : Bool → Bool → Bool → Bool → Bool → Bool → Bool
four ab ac bc ad bd cd = (ab || (ac || (ad || false))) || ((bc || (bd || false)) || ((cd || false) || false))

-- the later slot of the first pair is the first s such that slots 0..s have a pair
module _ (code : ℕ) (z y : Verdict) where
  pairs_2 : (ab : Bool) → (two ab ≡ false → z ≡ y)
      → refuse_at code (first_pair ab false false false false false) z
      ≡ pick (two ab) (verdict code (first_at false (two ab) (two ab) (two ab))) y
  pairs_2 true k = refl
  pairs_2 false k = k refl

  pairs_3 : (ab ac bc : Bool) → (three ab ac bc ≡ false → z ≡ y)
      → refuse_at code (first_pair ab ac bc false false false) z
      ≡ pick (three ab ac bc) (verdict code (first_at false (two ab) (three ab ac bc) (three ab ac bc))) y
  pairs_3 true ac bc k = refl
  pairs_3 false true bc k = refl
  pairs_3 false false true k = refl
  pairs_3 false false false k = k refl

  pairs_4 : (ab ac bc ad bd cd : Bool) → (four ab ac bc ad bd cd ≡ false → z ≡ y)
      → refuse_at code (first_pair ab ac bc ad bd cd) z
      ≡ pick (four ab ac bc ad bd cd)
      (verdict code (first_at false (two ab) (three ab ac bc) (four ab ac bc ad bd cd)))
      y
  pairs_4 true ac bc ad bd cd k = refl
  pairs_4 false true bc ad bd cd k = refl
  pairs_4 false false true true bd cd k = refl
  pairs_4 false false true false bd cd k = refl
  pairs_4 false false false true bd cd k = refl
  pairs_4 false false false false true cd k = refl
  pairs_4 false false false false false true k = refl
  pairs_4 false false false false false false k = k refl

  pub first_pair_lem : {A C : Type 0} (of : A → C) (none : C) (test : C → C → Bool) (meets : A → A → Bool)
      → ((x y : A) → test (of x) (of y) ≡ meets x y) → ((x : A) → test (of x) none ≡ false) → test none none ≡ false
      → (xs : List A) → length xs ≤ 4 → (twice meets xs ≡ false → z ≡ y)
      → let a = nth_of of none 0 xs in
      let b = nth_of of none 1 xs in
      let c = nth_of of none 2 xs in
      let d = nth_of of none 3 xs in
      refuse_at code (first_pair (test a b) (test a c) (test b c) (test a d) (test b d) (test c d)) z
      ≡ refuse code (twice meets) xs y
  first_pair_lem of none test meets e l n [] h k = rw n (k refl)
  first_pair_lem of none test meets e l n (a ∷ []) h k = rw (n, l a) (k refl)
  first_pair_lem of none test meets e l n (a ∷ b ∷ []) h k = rw (n, e a b, l a, l b) (pairs_2 (meets a b) k)
  first_pair_lem of none test meets e l n (a ∷ b ∷ c ∷ []) h k =
      rw (e a b, e a c, e b c, l a, l b, l c) (pairs_3 (meets a b) (meets a c) (meets b c) k)
  first_pair_lem of none test meets e l n (a ∷ b ∷ c ∷ d ∷ []) h k =
      rw (e a b, e a c, e b c, e a d, e b d, e c d)
      (pairs_4 (meets a b) (meets a c) (meets b c) (meets a d) (meets b d) (meets c d) k)
  first_pair_lem of none test meets e l n (a ∷ b ∷ c ∷ d ∷ x ∷ xs) h k = absurd (omega arith)

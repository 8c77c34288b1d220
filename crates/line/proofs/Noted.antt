-- The slot that a pass notes for a rule is the first s such that slots 0..s break it.
use mathlib.Core.Path.{◌≡◌, refl, sym, ◌∙◌}
use mathlib.Core.List.{List, [], ◌∷◌, ◌++◌}
use mathlib.Core.Bool.{Bool, true, false, ◌||◌, or-false}
use Prim.Native.Nat.{ℕ, ◌+◌, ◌≤◌}
use native.Mathlib.Omega.{arith}
use lib.ListN.{length, take}
use Rattle.std.specs.Prelude.{Option, Some, None, is_some}
use Rattle.bits.specs.Pick.{pick}
use Rattle.slots.proofs.Tests.{neither_left, neither_right}
use Rattle.line.specs.Rules.{verdict, refuse}
use Rattle.line.specs.Pass.{note, note_all, refuse_at}
use Rattle.line.specs.declared.rules.ByRule.{ByRule}
use Rattle.line.specs.Verdicts.{Verdict}
use Rattle.line.proofs.FirstSlots.{first_at}

-- a slot that breaks no rule is not noted; one that does leaves one noted
pub not_noted : (n : Option ℕ) (s : ℕ) → note n s false ≡ n
not_noted (Some i) s = refl
not_noted None s = refl

pub noted_now : (n : Option ℕ) (s : ℕ) → is_some (note n s true) ≡ true
noted_now (Some i) s = refl
noted_now None s = refl

-- a slot that breaks no rule leaves what is noted
pub none_broken : (noted : ByRule (Option ℕ)) (s : ℕ) (breaks : ByRule Bool)
    → (((((breaks.condition || breaks.modifier) || breaks.positions) || breaks.units) || breaks.blocks) || breaks.registers) ≡ false
    → noted ≡ note_all noted s breaks
unfolding note_all
none_broken noted s breaks e =
    let c = breaks.condition in
    let m = breaks.modifier in
    let p = breaks.positions in
    let u = breaks.units in
    let b = breaks.blocks in
    let fifth = neither_left ((((c || m) || p) || u) || b) breaks.registers e in
    let fourth = neither_left (((c || m) || p) || u) b fifth in
    let third = neither_left ((c || m) || p) u fourth in
    let second = neither_left (c || m) p third in
    rw (
      neither_left c m second,
      neither_right c m second,
      neither_right (c || m) p third,
      neither_right ((c || m) || p) u fourth,
      neither_right (((c || m) || p) || u) b fifth,
      neither_right ((((c || m) || p) || u) || b) breaks.registers e,
    )
    (simp not_noted)

-- no slot breaks the rule where the line has none
kept : (b : Bool) → b ≡ (b || false)
kept b = sym (or-false b)

-- what is noted after the slots xs, where ps came before them: breaks tells what a slot breaks after others
abbrev pub noted_from : {A : Type 0} → (List A → A → Bool) → Option ℕ → ℕ → List A → List A → Option ℕ
noted_from breaks noted s ps [] = noted
noted_from breaks noted s ps (x ∷ xs) = noted_from breaks (note noted s (breaks ps x)) (s + 1) (ps ++ (x ∷ [])) xs

abbrev pub noted_in : {A : Type 0} → (List A → A → Bool) → List A → Option ℕ
noted_in breaks xs = noted_from breaks None 0 [] xs

module _ (code : ℕ) (z y : Verdict) where
  -- what each of four slots breaks
  tests : (p q r s : Bool) → ((((p || q) || r) || s) ≡ false → z ≡ y)
      → refuse_at code (note (note (note (note None 0 p) 1 q) 2 r) 3 s) z
      ≡ pick (((p || q) || r) || s) (verdict code (first_at p (p || q) ((p || q) || r) (((p || q) || r) || s))) y
  tests true q r s k = refl
  tests false true r s k = refl
  tests false false true s k = refl
  tests false false false true k = refl
  tests false false false false k = k refl

  -- whether slots 0..s break the rule: it is broken before, or the slot breaks it
  first_noted : {r1 r2 r3 r4 : Bool} (p q r s : Bool) → r1 ≡ p → r2 ≡ (r1 || q) → r3 ≡ (r2 || r) → r4 ≡ (r3 || s)
      → (r4 ≡ false → z ≡ y)
      → {n : Option ℕ} → n ≡ note (note (note (note None 0 p) 1 q) 2 r) 3 s
      → refuse_at code n z ≡ pick r4 (verdict code (first_at r1 r2 r3 r4)) y
  first_noted p q r s e1 e2 e3 e4 k f = rw (f, e4, e3, e2, e1) (tests p q r s (λ e. k (rw (e4, e3, e2, e1) e)))

  module _ {A : Type 0} (rule : List A → Bool) (breaks : List A → A → Bool) (P : List A → Type 0) where
    pub noted_is : rule [] ≡ false
        → ((xs : List A) (x : A) → P (xs ++ (x ∷ [])) → rule (xs ++ (x ∷ [])) ≡ (rule xs || breaks xs x))
        → ((n : ℕ) (xs : List A) → P xs → P (take n xs))
        → (xs : List A) → length xs ≤ 4 → P xs → (rule xs ≡ false → z ≡ y)
        → refuse_at code (noted_in breaks xs) z ≡ refuse code rule xs y
    noted_is none more part [] h v k = rw none (k none)
    noted_is none more part (a ∷ []) h v k =
        first_noted (breaks [] a) false false false (more [] a v ∙ rw none) (kept (rule (a ∷ []))) (kept (rule (a ∷ [])))
        (kept (rule (a ∷ []))) k (simp not_noted)
    noted_is none more part (a ∷ b ∷ []) h v k =
        first_noted (breaks [] a) (breaks (a ∷ []) b) false false (more [] a (part 1 (a ∷ b ∷ []) v) ∙ rw none)
        (more (a ∷ []) b v) (kept (rule (a ∷ b ∷ []))) (kept (rule (a ∷ b ∷ []))) k (simp not_noted)
    noted_is none more part (a ∷ b ∷ c ∷ []) h v k =
        first_noted (breaks [] a) (breaks (a ∷ []) b) (breaks (a ∷ b ∷ []) c) false
        (more [] a (part 1 (a ∷ b ∷ c ∷ []) v) ∙ rw none) (more (a ∷ []) b (part 2 (a ∷ b ∷ c ∷ []) v))
        (more (a ∷ b ∷ []) c v) (kept (rule (a ∷ b ∷ c ∷ []))) k (simp not_noted)
    noted_is none more part (a ∷ b ∷ c ∷ d ∷ []) h v k =
        first_noted (breaks [] a) (breaks (a ∷ []) b) (breaks (a ∷ b ∷ []) c) (breaks (a ∷ b ∷ c ∷ []) d)
        (more [] a (part 1 (a ∷ b ∷ c ∷ d ∷ []) v) ∙ rw none) (more (a ∷ []) b (part 2 (a ∷ b ∷ c ∷ d ∷ []) v))
        (more (a ∷ b ∷ []) c (part 3 (a ∷ b ∷ c ∷ d ∷ []) v)) (more (a ∷ b ∷ c ∷ []) d v) k refl
    noted_is none more part (a ∷ b ∷ c ∷ d ∷ x ∷ xs) h v k = absurd (omega arith)

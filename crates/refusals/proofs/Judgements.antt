-- The verdict of the pass over a line's slots is the running state's verdict on the line.
use mathlib.Core.Path.{◌≡◌, refl, sym, ap, ◌∙◌}
use mathlib.Core.List.{List, [], ◌∷◌}
use mathlib.Core.Bool.{Bool, true, false, ◌||◌, and-false}
use Prim.Native.Nat.{ℕ, ◌%◌, ◌≤◌}
use native.Mathlib.Omega.{arith}
use lib.ListN.{length, get_or}
use lib.Dec.{ltb, eqb}
use borrow.Author.Tests.{le-ltb, ne_eqb}
use Rattle.std.specs.Prelude.{Option, None}
use Rattle.bits.specs.Pick.{pick}
use Rattle.slots.specs.Lists.{nth_of}
use Rattle.slots.specs.Places.{meet, in_memory}
use Rattle.slots.specs.Families.{on_dab_load}
use Rattle.slots.specs.declared.slot.Slot.{Slot}
use Rattle.slots.proofs.Tests.{neither_left, neither_right}
use Rattle.slots.proofs.Others.{NotArith, NotAccess, NotDabLoad, not_modifier, not_access, not_dab_load}
use Rattle.sets.specs.Ranges.{range, no_words, overlap}
use Rattle.sets.specs.declared.range.Range.{Range}
use Rattle.sets.proofs.Ranges.{range_meet}
use Rattle.machine.specs.Fetches.{when}
use Rattle.line.specs.Rules.{verdict}
use Rattle.line.specs.Pass.{note, refuse_at}
use Rattle.line.specs.Verdicts.{Verdict}
use Rattle.line.proofs.Noted.{not_noted}
use Rattle.line.proofs.FirstSlots.{first_one, first_pair, first_slot, first_pair_lem}
use Rattle.conditional.specs.LineSlots.{live}
use Rattle.conditional.specs.declared.line_slot.Fetched.{Fetched}
use Rattle.bits.specs.Ops.{is_store}
use Rattle.word.specs.Addresses.{quad_at}
use Rattle.word.specs.Ialu.{address}
use Rattle.instructions.specs.Held.{index, modifier, base, len}
use Rattle.instructions.specs.StoredWords.{range_stored}
use Rattle.instructions.proofs.StoredWords.{Ranged, ranged}
use Rattle.refusals.specs.Refusals.{outside, misplaced, breaks9, breaks17, breaks8, live_stored, run_verdict}
use Rattle.refusals.specs.MemoryUses.{no_access, use_of, none_judged, stored_again, judge, judge_all, verdict_of}
use Rattle.refusals.specs.declared.memory_use.MemoryUse.{MemoryUse}
use Rattle.refusals.specs.declared.judged.Judged.{Judged}

-- ---- a slot that stores no word

lone : (r : Range) → overlap r no_words ≡ false
unfolding overlap
lone r = simp and-false

first_lone : (r : Range) → overlap no_words r ≡ false
unfolding overlap
first_lone r = refl

-- ---- the use of a slot

module _ (size : ℕ) where
  -- of a slot with what it holds
  abbrev pub used : Fetched → MemoryUse
  used x = use_of size x.slot.slot x.held

  -- a slot that is not live
  pub not_live : (x : Slot) (v : List ℕ) → live v ≡ false → no_access false ≡ use_of size x v
  unfolding use_of
  not_live x v e = sym (rw e)

  -- told by the word that says whether it is live
  pub not_live_lem : (x : Slot) (v : List ℕ) {r : MemoryUse} → r ≡ no_access false → (get_or v 14 0 ≡ 1 → ⊥)
      → r ≡ use_of size x v
  not_live_lem x v e h = e ∙ not_live x v (ne_eqb (get_or v 14 0) 1 h)

  -- a slot of a family that accesses no memory and modifies no index
  pub no_use : (x : Slot) (v : List ℕ) → NotArith x → NotDabLoad x → NotAccess x → no_access false ≡ use_of size x v
  unfolding use_of range_stored
  no_use x v h d g =
      let nine : breaks9 size x v ≡ false =
      not_modifier false (λ w s i. outside size w (index v) (modifier v) (base v) (len v)) x h g d in
      let seventeen : breaks17 x v ≡ false = not_dab_load false (λ ialu b t f i. eqb (index v % 4) 0) x d in
      let quad : Bool = on_dab_load false (λ ialu b t f i. misplaced size 4 (quad_at (index v))) x in
      let eight : breaks8 size x v ≡ false =
      not_access quad (λ ialu op w file n f s i. misplaced size w (address op (index v) (modifier v))) x g
      ∙ not_dab_load false (λ ialu b t f i. misplaced size 4 (quad_at (index v))) x d in
      let stored : range_stored x v ≡ no_words =
      not_access no_words (λ ialu op w file n f s i. range (address op (index v) (modifier v)) (pick (is_store op) w 0)) x g in
      sym (rw (nine, seventeen, eight, stored)
      (rw (and-false (live v)) (ap (no_access_but false) (either (live v)))))
    where
      no_access_but : Bool → Range → MemoryUse
      no_access_but b r = record { outside = b; aligned = b; misplaced = b; stored = r }

      either : (b : Bool) → pick b no_words no_words ≡ no_words
      either true = refl
      either false = refl

  used_10 : (x y : Fetched) → overlap (used x).stored (used y).stored ≡ meet (live_stored x) (live_stored y)
  unfolding use_of
  used_10 x y =
      let p = ranged x.slot.slot x.held in
      let q = ranged y.slot.slot y.held in
      rw (p.range_is, q.range_is, p.words_are, q.words_are) (go (live x.held) (live y.held) p q)
    where
      go : (a b : Bool) (p : Ranged x.slot.slot x.held) (q : Ranged y.slot.slot y.held)
          → overlap (pick a (range p.from p.count) no_words) (pick b (range q.from q.count) no_words)
          ≡ meet (when a (in_memory p.from p.count)) (when b (in_memory q.from q.count))
      go true true p q = sym (range_meet p.from p.count q.from q.count)
      go true false p q = sym (range_meet p.from p.count 0 0)
      go false b p q = first_lone _

-- a slot that stores no word stores none again
none_overlap : (p r : Range) → r.high ≤ r.low → overlap p r ≡ false
unfolding overlap
none_overlap p r h = rw (le-ltb r.low r.high h, and-false (ltb p.low p.high))

pub none_stored : (j : Judged) (r : Range) → r.high ≤ r.low → false ≡ stored_again j r
unfolding stored_again
none_stored j r h = sym (rw (none_overlap j.a r h, none_overlap j.b r h, none_overlap j.c r h))

-- a slot that breaks no rule leaves what is noted
pub none_broken : (j : Judged) (s : ℕ) (x : MemoryUse) {t : Bool} → t ≡ stored_again j x.stored
    → (((x.outside || x.aligned) || x.misplaced) || t) ≡ false
    → record { circular = j.circular; aligned = j.aligned; access = j.access; words = j.words; a = j.b; b = j.c; c = x.stored } ≡ judge j s x
unfolding judge
none_broken j s x {t} e f =
    let first = neither_left ((x.outside || x.aligned) || x.misplaced) t f in
    let second = neither_left (x.outside || x.aligned) x.misplaced first in
    rw (
      neither_left x.outside x.aligned second,
      neither_right x.outside x.aligned second,
      neither_right (x.outside || x.aligned) x.misplaced first,
      ← e,
      neither_right ((x.outside || x.aligned) || x.misplaced) t f,
    )
    (simp not_noted)

-- ---- the notes of at most four slots

noted_1 : (p : Bool) → note None 0 p ≡ first_one p false false false
noted_1 true = refl
noted_1 false = refl

noted_2 : (p q : Bool) → note (note None 0 p) 1 q ≡ first_one p q false false
noted_2 true q = refl
noted_2 false true = refl
noted_2 false false = refl

noted_3 : (p q r : Bool) → note (note (note None 0 p) 1 q) 2 r ≡ first_one p q r false
noted_3 true q r = refl
noted_3 false true r = refl
noted_3 false false true = refl
noted_3 false false false = refl

noted_4 : (p q r s : Bool) → note (note (note (note None 0 p) 1 q) 2 r) 3 s ≡ first_one p q r s
noted_4 true q r s = refl
noted_4 false true r s = refl
noted_4 false false true s = refl
noted_4 false false false true = refl
noted_4 false false false false = refl

pairs_noted : (ab ac bc ad bd cd : Bool)
    → note (note (note None 1 ab) 2 (ac || bc)) 3 ((ad || bd) || cd) ≡ first_pair ab ac bc ad bd cd
pairs_noted true ac bc ad bd cd = refl
pairs_noted false true bc ad bd cd = refl
pairs_noted false false true ad bd cd = refl
pairs_noted false false false true bd cd = refl
pairs_noted false false false false true cd = refl
pairs_noted false false false false false true = refl
pairs_noted false false false false false false = refl

pairs_of_three : (ab ac bc : Bool) → note (note None 1 ab) 2 (ac || bc) ≡ first_pair ab ac bc false false false
pairs_of_three true ac bc = refl
pairs_of_three false true bc = refl
pairs_of_three false false true = refl
pairs_of_three false false false = refl

-- a slot that stores d after those that store a, b and c
abbrev again : Range → Range → Range → Range → Bool
again a b c d = overlap a d || overlap b d || overlap c d

abbrev pair_of : Range → Range → Range → Range → Option ℕ
pair_of a b c d = first_pair (overlap a b) (overlap a c) (overlap b c) (overlap a d) (overlap b d) (overlap c d)

abbrev no : Range
no = no_words

ten_0 : None ≡ pair_of no no no no
ten_0 = simp lone

ten_1 : (a : Range) → note None 0 (again no no no a) ≡ pair_of a no no no
ten_1 a = simp (lone, first_lone)

ten_2 : (a b : Range) → note (note None 0 (again no no no a)) 1 (again no no a b) ≡ pair_of a b no no
ten_2 a b = simp (lone, first_lone)

ten_3 : (a b c : Range) → note (note (note None 0 (again no no no a)) 1 (again no no a b)) 2 (again no a b c) ≡ pair_of a b c no
ten_3 a b c = simp (lone, first_lone) (pairs_of_three (overlap a b) (overlap a c) (overlap b c))

ten_4 : (a b c d : Range)
    → note (note (note (note None 0 (again no no no a)) 1 (again no no a b)) 2 (again no a b c)) 3 (again a b c d)
    ≡ pair_of a b c d
ten_4 a b c d =
    simp first_lone
    (pairs_noted (overlap a b) (overlap a c) (overlap b c) (overlap a d) (overlap b d) (overlap c d))

-- ---- the verdict

module _ (size : ℕ) where
  -- the verdict on the uses of four slots, of which the line may have fewer
  abbrev of_four : List Fetched → Verdict
  of_four xs =
      let a = nth_of (used size) (no_access false) 0 xs in
      let b = nth_of (used size) (no_access false) 1 xs in
      let c = nth_of (used size) (no_access false) 2 xs in
      let d = nth_of (used size) (no_access false) 3 xs in
      refuse_at 9 (first_one a.outside b.outside c.outside d.outside)
      (refuse_at 17 (first_one a.aligned b.aligned c.aligned d.aligned)
      (refuse_at 8 (first_one a.misplaced b.misplaced c.misplaced d.misplaced)
      (refuse_at 10 (pair_of a.stored b.stored c.stored d.stored) (verdict 0 0))))

  four_verdict : (xs : List Fetched) → length xs ≤ 4 → of_four xs ≡ run_verdict size xs
  unfolding run_verdict use_of
  four_verdict xs h =
      first_slot 9 _ _ (used size) (no_access false) (λ p. p.outside) _ (λ x. refl) refl xs h
      (λ _. first_slot 17 _ _ (used size) (no_access false) (λ p. p.aligned) _ (λ x. refl) refl xs h
      (λ _. first_slot 8 _ _ (used size) (no_access false) (λ p. p.misplaced) _ (λ x. refl) refl xs h
      (λ _. first_pair_lem 10 _ _ (used size) (no_access false) (λ p q. overlap p.stored q.stored) _ (used_10 size)
      (λ x. lone (used size x).stored) (lone no_words) xs h
      (λ _. refl))))

  by_rule : {n s e t k z f u : Option ℕ} → n ≡ k → s ≡ z → e ≡ f → t ≡ u
      → refuse_at 9 n (refuse_at 17 s (refuse_at 8 e (refuse_at 10 t (verdict 0 0))))
      ≡ refuse_at 9 k (refuse_at 17 z (refuse_at 8 f (refuse_at 10 u (verdict 0 0))))
  by_rule p s q r = rw (p, s, q, r)

  abbrev nine : Fetched → Bool
  nine x = (used size x).outside

  abbrev seventeen : Fetched → Bool
  seventeen x = (used size x).aligned

  abbrev eight : Fetched → Bool
  eight x = (used size x).misplaced

  abbrev words : Fetched → Range
  words x = (used size x).stored

  noted_verdict : (xs : List Fetched) → length xs ≤ 4 → verdict_of (judge_all size 0 none_judged xs) ≡ of_four xs
  unfolding verdict_of judge_all judge stored_again
  noted_verdict [] h = by_rule {n = None} {s = None} {e = None} {t = None} refl refl refl ten_0
  noted_verdict (a ∷ []) h = by_rule (noted_1 (nine a)) (noted_1 (seventeen a)) (noted_1 (eight a)) (ten_1 (words a))
  noted_verdict (a ∷ b ∷ []) h =
      by_rule (noted_2 (nine a) (nine b)) (noted_2 (seventeen a) (seventeen b)) (noted_2 (eight a) (eight b))
      (ten_2 (words a) (words b))
  noted_verdict (a ∷ b ∷ c ∷ []) h =
      by_rule (noted_3 (nine a) (nine b) (nine c)) (noted_3 (seventeen a) (seventeen b) (seventeen c))
      (noted_3 (eight a) (eight b) (eight c)) (ten_3 (words a) (words b) (words c))
  noted_verdict (a ∷ b ∷ c ∷ d ∷ []) h =
      by_rule (noted_4 (nine a) (nine b) (nine c) (nine d)) (noted_4 (seventeen a) (seventeen b) (seventeen c) (seventeen d))
      (noted_4 (eight a) (eight b) (eight c) (eight d)) (ten_4 (words a) (words b) (words c) (words d))
  noted_verdict (a ∷ b ∷ c ∷ d ∷ x ∷ xs) h = absurd (omega arith)

  pub judged_verdict : (xs : List Fetched) → length xs ≤ 4 → verdict_of (judge_all size 0 none_judged xs) ≡ run_verdict size xs
  judged_verdict xs h = noted_verdict xs h ∙ four_verdict xs h

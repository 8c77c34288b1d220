-- A record's bytes: the parts of one that has them fill its words, and its verdict is that of its layout.
use mathlib.Core.Path.{◌≡◌, refl, sym, ap, ◌∙◌}
use Rattle.std.proofs.Common.{MatchResult, IsErrAnd}
use mathlib.Core.List.{List}
use Prim.Native.Nat.{ℕ, ◌+◌, ◌-◌, ◌*◌, ◌/◌, ◌≤◌}
use native.Mathlib.Omega.{arith}
use lib.ListN.{length, get_or, take, drop, length-take, length-drop}
use lib.Dec.{ltb, eqb}
use borrow.Author.Tests.{ltb-false}
use Rattle.slots.proofs.Picks.{picked}
use Rattle.image.specs.Bytes.{words_of_bytes, loaded}
use Rattle.image.proofs.LittleEndian.{words_length, front_loaded}
use Rattle.replay.specs.Record.{fixed_words, image_length, memory_length, orders_length, parts_words, parts_of, Fill, counted, layout_of}
use Rattle.replay.specs.Case.{calls_verdict, verdict_of}
use Rattle.replay.specs.declared.record.Parts.{Parts}
use Rattle.std.specs.declared.result.Result.{Result}
use Rattle.std.specs.declared.result.Result.TheVariants.{Ok, Err}
use Rattle.replay.specs.declared.record.Fault.{Fault}
use Rattle.replay.specs.declared.case.Failure as failure

-- a layout with these parts has them in order
abbrev Right : List ℕ → Parts → Result Parts Fault → Type 0
Right w p l = l ≡ Ok p → Fill p (length w)

broken : (w : List ℕ) (p : Parts) (f : Fault) → Right w p (Err f)
broken w p f e = absurd (let z : ◌≡◌ {A = ℕ} 0 1 = cc in omega arith)

counted_right : (w : List ℕ) (p q : Parts) → Fill q (length w) → Right w p (counted w q)
unfolding counted
counted_right w p q f =
    picked (Right w p) (eqb (get_or w (q.check - 1) 0) 3) _ _
    (λ _. picked (Right w p) (eqb (get_or w (q.plain - 1) 0) 5) _ _
    (λ _. picked (Right w p) (eqb (get_or w (q.ordered - 1) 0) 5) _ _
    (λ _ e. let s : q ≡ p = cc in rw s at f)
    (λ _. broken w p _))
    (λ _. broken w p _))
    (λ _. broken w p _)

pub whole_fills : (w : List ℕ) (p : Parts) → layout_of w ≡ Ok p → Fill p (length w)
unfolding layout_of
whole_fills w p =
    picked (Right w p) (ltb (length w) fixed_words) _ _ (λ _. broken w p _)
    (λ _. picked (Right w p) (ltb (length w) (fixed_words + image_length w)) _ _ (λ _. broken w p _)
    (λ _. picked (Right w p) (ltb (length w) (fixed_words + image_length w + 3 * memory_length w)) _ _ (λ _. broken w p _)
    (λ _. picked (Right w p) (ltb (length w) (parts_words w)) _ _ (λ _. broken w p _)
    (λ s. picked (Right w p) (ltb (parts_words w) (length w)) _ _ (λ _. broken w p _)
    (λ t. counted_right w p (parts_of (image_length w) (memory_length w) (orders_length w))
    (record {
      state_at = refl;
      limit_at = refl;
      check_at = refl;
      plain_at = refl;
      ordered_at = refl;
      ends = omega (arith, ltb-false (length w) (parts_words w) s, ltb-false (parts_words w) (length w) t);
    }))))))

-- a layout whose fault `?` hands on as a failure
module _ (x : Result Parts Fault) (m : Result Parts failure.Failure)
    (e : MatchResult x (λ p. m ≡ Ok p) (λ f. IsErrAnd m (λ r. r ≡ failure.TheVariants.Broken f))) where
  pub laid : {p : Parts} → m ≡ Ok p → x ≡ Ok p
  laid {p} q = go x e
    where
      go : (x : Result Parts Fault) → MatchResult x (λ p. m ≡ Ok p) (λ f. IsErrAnd m (λ r. r ≡ failure.TheVariants.Broken f)) → x ≡ Ok p
      go (Ok a) h = let k : a ≡ p = cc in ap Ok k
      go (Err f) h = absurd (rw q at h)

  pub handed_on : {r : failure.Failure} {z : Result Unit failure.Failure} → m ≡ Err r
      → ((f : Fault) → x ≡ Err f → Err (failure.TheVariants.Broken f) ≡ z) → Err r ≡ z
  handed_on {r} {z} q k = go x e k
    where
      go : (x : Result Parts Fault) → MatchResult x (λ p. m ≡ Ok p) (λ f. IsErrAnd m (λ r. r ≡ failure.TheVariants.Broken f))
          → ((f : Fault) → x ≡ Err f → Err (failure.TheVariants.Broken f) ≡ z) → Err r ≡ z
      go (Ok a) h k = absurd (cc)
      go (Err f) h k = let t = rw q at h in ap Err t ∙ k f refl

-- ---- the words of a record's bytes, at the front of their room

module _ (bs room held : List ℕ) (fits : length bs ≤ 4 * length room) (e : held ≡ loaded bs room) where
  words_read_lem : take (length bs / 4 - 0) (drop 0 held) ≡ words_of_bytes bs
  words_read_lem = rw e (front_loaded bs room (omega arith))

  module _ {l : Result Parts Fault} (q : l ≡ layout_of (take (length bs / 4 - 0) (drop 0 held))) where
    read_layout : l ≡ layout_of (words_of_bytes bs)
    read_layout = q ∙ ap layout_of words_read_lem

    pub broken_told : {f : Fault} → l ≡ Err f → Err (failure.TheVariants.Broken f) ≡ verdict_of bs
    unfolding verdict_of
    broken_told t = rw (sym read_layout ∙ t) refl

    module _ {p : Parts} (t : l ≡ Ok p) where
      read_fills : Fill p (length (words_of_bytes bs))
      read_fills = whole_fills (words_of_bytes bs) p (sym read_layout ∙ t)

      memory_fits : p.memory ≤ length room
      memory_fits = omega (arith, words_length bs, read_fills.state_at, read_fills.limit_at, read_fills.ordered_at, read_fills.ends)

      pub memory_lent : (mem : List ℕ) → length room ≤ length mem → p.memory ≤ length mem
      memory_lent mem h = omega (arith, memory_fits)

      -- what the comparison of the calls asks
      pub calls_ready : (mem : List ℕ) → length room ≤ length mem
          → Fill p (length (take (length bs / 4 - 0) (drop 0 held))) × (length (take (p.memory - 0) (drop 0 mem)) ≡ p.memory)
          × (4 * length (take (length bs / 4 - 0) (drop 0 held)) ≤ length bs)
      calls_ready mem h = (
        rw words_read_lem read_fills,
        simp (length-take, length-drop) (omega (arith, memory_fits)),
        rw words_read_lem (omega (arith, words_length bs)),
      )

      pub calls_told : {v : Result Unit failure.Failure} → v ≡ calls_verdict bs (take (length bs / 4 - 0) (drop 0 held)) p → v ≡ verdict_of bs
      unfolding verdict_of
      calls_told u = u ∙ rw (sym read_layout ∙ t, words_read_lem) refl

-- The layout of a record, test by test: i, m and o are the lengths as the code read them.
use mathlib.Core.Path.{◌≡◌, refl, sym, ap, ◌∙◌}
use mathlib.Core.List.{List}
use Prim.Native.Nat.{ℕ, ◌+◌, ◌*◌, ◌/◌, ◌≤◌, ◌<◌}
use native.Mathlib.Omega.{arith}
use lib.ListN.{length, get_or}
use Rattle.slots.proofs.Picks.{lt_taken, lt_left}
use Rattle.replay.specs.Record.{fixed_words, orders_at, image_length, memory_length, orders_length, parts_words, parts_of, Fill, counted, layout_of}
use Rattle.replay.specs.declared.record.Parts.{Parts}
use Rattle.replay.specs.declared.record.Fault.{Fault}
use Rattle.std.specs.declared.result.Result.{Result}
use Rattle.std.specs.declared.result.Result.TheVariants.{Err}
use Rattle.replay.specs.declared.record.Fault.TheVariants.{Short, Image, Memory, Orders, Length}

-- a length that was read: the word, which has 32 bits
abbrev pub Read : ℕ → List ℕ → ℕ → Type 0
Read n w at = (n ≡ get_or w at 0) × (n < 4294967296)

module _ (w : List ℕ) where
  pub too_short : length w < fixed_words → Err (Short (length w)) ≡ layout_of w
  unfolding layout_of
  too_short h = lt_taken (length w) fixed_words _ _ h refl

  module _ (h : fixed_words ≤ length w) {i : ℕ} (ri : Read i w 0) where
    pub image_past : length w < fixed_words + i → Err (Image (get_or w 0 0)) ≡ layout_of w
    unfolding layout_of
    image_past t =
        lt_left (length w) fixed_words _ _ h
        (lt_taken (length w) (fixed_words + image_length w) _ _ (omega (arith, ri.0)) refl)

    module _ (hi : fixed_words + i ≤ length w) {m : ℕ} (rm : Read m w (1 + i)) where
      memory_is : m ≡ memory_length w
      memory_is = rm.0 ∙ ap (λ (k : ℕ). get_or w (1 + k) 0) ri.0

      pub memory_past : length w < fixed_words + i + 3 * m → Err (Memory (get_or w (1 + i) 0)) ≡ layout_of w
      unfolding layout_of
      memory_past t =
          lt_left (length w) fixed_words _ _ h
          (lt_left (length w) (fixed_words + image_length w) _ _ (omega (arith, ri.0))
          (lt_taken (length w) (fixed_words + image_length w + 3 * memory_length w) _ _ (omega (arith, ri.0, memory_is))
          (ap (λ (k : ℕ). Err (Memory k)) (sym rm.0 ∙ memory_is))))

      module _ (hm : fixed_words + i + 3 * m ≤ length w) {o : ℕ} (ro : Read o w (orders_at + i + m)) where
        orders_are : o ≡ orders_length w
        orders_are =
            ro.0 ∙ ap (λ (k : ℕ). get_or w (orders_at + k + m) 0) ri.0
            ∙ ap (λ (k : ℕ). get_or w (orders_at + image_length w + k) 0) memory_is

        pub orders_past : length w < fixed_words + i + 3 * m + (o + 3) / 4 → Err (Orders (get_or w (orders_at + i + m) 0)) ≡ layout_of w
        unfolding layout_of
        orders_past t =
            lt_left (length w) fixed_words _ _ h
            (lt_left (length w) (fixed_words + image_length w) _ _ (omega (arith, ri.0))
            (lt_left (length w) (fixed_words + image_length w + 3 * memory_length w) _ _ (omega (arith, ri.0, memory_is))
            (lt_taken (length w) (parts_words w) _ _ (omega (arith, ri.0, memory_is, orders_are))
            (ap (λ (k : ℕ). Err (Orders k)) (sym ro.0 ∙ orders_are)))))

        module _ (ho : fixed_words + i + 3 * m + (o + 3) / 4 ≤ length w) where
          parts_are : fixed_words + i + 3 * m + (o + 3) / 4 ≡ parts_words w
          parts_are = omega (arith, ri.0, memory_is, orders_are)

          pub words_left : fixed_words + i + 3 * m + (o + 3) / 4 < length w
              → Err (Length (length w) (fixed_words + i + 3 * m + (o + 3) / 4)) ≡ layout_of w
          unfolding layout_of
          words_left t =
              lt_left (length w) fixed_words _ _ h
              (lt_left (length w) (fixed_words + image_length w) _ _ (omega (arith, ri.0))
              (lt_left (length w) (fixed_words + image_length w + 3 * memory_length w) _ _ (omega (arith, ri.0, memory_is))
              (lt_left (length w) (parts_words w) _ _ (omega (arith, parts_are))
              (lt_taken (parts_words w) (length w) _ _ (omega (arith, parts_are))
              (ap (λ (k : ℕ). Err (Length (length w) k)) parts_are)))))

          module _ (e : length w ≤ fixed_words + i + 3 * m + (o + 3) / 4) {p : Parts} (pe : p ≡ parts_of i m o) where
            pub filled : Fill p (length w)
            filled =
                rw pe
                (record {
                  state_at = refl;
                  limit_at = refl;
                  check_at = refl;
                  plain_at = refl;
                  ordered_at = refl;
                  ends = omega arith;
                })

            pub laid_out : {z : Result Parts Fault} → z ≡ counted w p → z ≡ layout_of w
            unfolding layout_of
            laid_out q =
                let same : p ≡ parts_of (image_length w) (memory_length w) (orders_length w) = pe ∙ rw (ri.0, memory_is, orders_are) refl in
                lt_left (length w) fixed_words _ _ h
                (lt_left (length w) (fixed_words + image_length w) _ _ (omega (arith, ri.0))
                (lt_left (length w) (fixed_words + image_length w + 3 * memory_length w) _ _ (omega (arith, ri.0, memory_is))
                (lt_left (length w) (parts_words w) _ _ (omega (arith, parts_are))
                (lt_left (parts_words w) (length w) _ _ (omega (arith, parts_are)) (q ∙ ap (counted w) same)))))

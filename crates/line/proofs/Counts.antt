-- Rules 4 and 6: the counts of a line's slots, in the bytes of one word.
use mathlib.Core.Path.{◌≡◌, refl, ap, ap₂, ◌∙◌}
use mathlib.Core.Logic.{⊎_elim}
use mathlib.Core.List.{List, [], ◌∷◌, ◌++◌}
use mathlib.Core.Bool.{Bool, true, false, ◌||◌}
use Prim.Native.Nat.{ℕ, zero, suc, ◌+◌, ◌-◌, ◌*◌, ◌/◌, ◌%◌, ◌^◌, ◌≤◌, ◌<◌}
use native.Mathlib.Omega.{arith}
use lib.ListN.{length}
use lib.Dec.{ltb, eqb}
use borrow.Author.Tests.{ltb-true, lt-ltb, le-ltb, eq-eqb, ne_eqb}
use Rattle.std.proofs.lemmas.Bool.{or_cases}
use Rattle.bits.specs.Pick.{pick}
use Rattle.bits.proofs.Integers.{by_order}
use Rattle.slots.specs.Lists.{total, count, All}
use Rattle.slots.specs.declared.slot.Slot.{Slot}
use Rattle.slots.specs.declared.slot.Slot.TheVariants.{Alu, Shifter, Trellis, Tmax, Despread, Transfer}
use Rattle.slots.specs.declared.slot.Slot.TheVariants.{Arith, Buffer, Access, DabLoad}
use Rattle.slots.proofs.Tests.{or_left, or_right}
use Rattle.slots.proofs.Valid.{Valid}
use Rattle.line.specs.Rules.{unit_for, for_block, wide_immediate, wide, positions, rule4, rule6}
use Rattle.line.specs.Pass.{count_word, block_counts, ialu_counts, slot_counts, no_counts, none_seen, over}
use Rattle.line.proofs.SlotsSeen.{seen_in, counts_from, breaks4, breaks6}

-- the byte of a block, as the code shifts it
pub block_shift : (b : ℕ) → b < 2
    → 1 + 65536 * 2 ^ (8 * b) % 2 ^ 32 ≡ pick (eqb b 0) (count_word 1 0 1 0) (count_word 1 0 0 1)
block_shift zero h = refl
block_shift (suc zero) h = refl
block_shift (suc (suc b)) h = absurd (omega arith)

-- ---- the counts of a slot

abbrev one : Bool → ℕ
one b = pick b 1 0

-- of the units u for X and u + 1 for Y
on_block : (u b : ℕ) → b < 2 → unit_for 0 (u + 0) ≡ true → unit_for 1 (u + 0) ≡ false → unit_for 0 (u + 1) ≡ false
    → unit_for 1 (u + 1) ≡ true
    → block_counts b ≡ count_word 1 0 (one (unit_for 0 (u + b))) (one (unit_for 1 (u + b)))
unfolding block_counts
on_block u zero h x0 x1 y0 y1 = rw (x0, x1)
on_block u (suc zero) h x0 x1 y0 y1 = rw (y0, y1)
on_block u (suc (suc b)) h x0 x1 y0 y1 = absurd (omega arith)

on_ialu : (k s i : ℕ) → k < 2
    → ialu_counts s i
    ≡ count_word (pick (wide_immediate s i) 2 1) (one (wide_immediate s i)) (one (unit_for 0 (7 + k))) (one (unit_for 1 (7 + k)))
unfolding ialu_counts
on_ialu k s i h = go (wide_immediate s i) k h
  where
    go : (b : Bool) (k : ℕ) → k < 2
        → pick b (count_word 2 1 0 0) (count_word 1 0 0 0)
        ≡ count_word (pick b 2 1) (one b) (one (unit_for 0 (7 + k))) (one (unit_for 1 (7 + k)))
    go true zero h = refl
    go false zero h = refl
    go true (suc zero) h = refl
    go false (suc zero) h = refl
    go b (suc (suc k)) h = absurd (omega arith)

slot_counts_lem : (x : Slot) → Valid x
    → slot_counts x ≡ count_word (positions x) (one (wide x)) (one (for_block 0 x)) (one (for_block 1 x))
unfolding slot_counts
slot_counts_lem (Alu b op t f s) v = on_block 1 b v.0 refl refl refl refl
slot_counts_lem (Shifter b op t f s) v = on_block 3 b v.0 refl refl refl refl
slot_counts_lem (Trellis b op t f s q) v = on_block 5 b v.0 refl refl refl refl
slot_counts_lem (Tmax b op t f s) v = on_block 5 b v.0 refl refl refl refl
slot_counts_lem (Despread b op t f p o) v = on_block 5 b v.0 refl refl refl refl
slot_counts_lem (Transfer b op t f) v = on_block 9 b v.0 refl refl refl refl
slot_counts_lem (Arith ialu op t f s i) v = on_ialu ialu s i v.0
slot_counts_lem (Buffer zero op t f) v = refl
slot_counts_lem (Buffer (suc zero) op t f) v = refl
slot_counts_lem (Buffer (suc (suc ialu)) op t f) v = absurd (omega arith)
slot_counts_lem (Access ialu op w file n f s i) v = on_ialu ialu s i v.0
slot_counts_lem (DabLoad ialu b t f i) v = on_ialu ialu 32 i v.0

-- at most a position and a slot for Y
pick_few : (b : Bool) {m n k : ℕ} → m ≤ k → n ≤ k → pick b m n ≤ k
pick_few true h g = h
pick_few false h g = g

block_few : (b : ℕ) → block_counts b ≤ count_word 1 0 0 1
unfolding block_counts
block_few b = pick_few (eqb (b % 2) 0) (omega arith) (omega arith)

ialu_few : (s i : ℕ) → ialu_counts s i ≤ count_word 1 0 0 1
unfolding ialu_counts
ialu_few s i = pick_few (wide_immediate s i) (omega arith) (omega arith)

pub slot_few : (x : Slot) → slot_counts x ≤ count_word 1 0 0 1
unfolding slot_counts
slot_few (Alu b op t f s) = block_few b
slot_few (Shifter b op t f s) = block_few b
slot_few (Trellis b op t f s q) = block_few b
slot_few (Tmax b op t f s) = block_few b
slot_few (Despread b op t f p o) = block_few b
slot_few (Transfer b op t f) = block_few b
slot_few (Arith ialu op t f s i) = ialu_few s i
slot_few (Buffer ialu op t f) = omega arith
slot_few (Access ialu op w file n f s i) = ialu_few s i
slot_few (DabLoad ialu b t f i) = ialu_few 32 i

-- ---- the counts of a line

line_counts : (xs : List Slot) → All Valid xs
    → total slot_counts xs
    ≡ count_word (total positions xs) (count wide xs) (count (for_block 0) xs) (count (for_block 1) xs)
line_counts [] v = refl
line_counts (x ∷ xs) v = let e = slot_counts_lem x v.0 in let h = line_counts xs v.1 in omega arith

total_few : (f : Slot → ℕ) (m : ℕ) → ((x : Slot) → f x ≤ m) → (xs : List Slot) → total f xs ≤ m * length xs
total_few f m h [] = omega arith
total_few f m h (x ∷ xs) = let a = h x in let b = total_few f m h xs in omega arith

total_append : (f : Slot → ℕ) (xs ys : List Slot) → total f (xs ++ ys) ≡ total f xs + total f ys
total_append f [] ys = omega arith
total_append f (x ∷ xs) ys = let h = total_append f xs ys in omega arith

-- ---- the top bits

-- a byte that starts n below its limit k, less than its top bit
top_bit : (k n above : ℕ) → k ≤ 4 → n ≤ 8 → over 128 (127 - k + n + 256 * above) ≡ ltb k n
top_bit k n above hk hn =
    by_order (over 128 (127 - k + n + 256 * above) ≡ ltb k n) (suc k) n
    (λ l. rw (lt-ltb k n l) (eq-eqb ((127 - k + n + 256 * above) / 128 % 2) 1 (omega arith)))
    (λ l. rw (le-ltb k n (omega arith)) (ne_eqb ((127 - k + n + 256 * above) / 128 % 2) 1 (λ e. omega arith)))

module _ (p w x y : ℕ) (hp : p ≤ 8) (hw : w ≤ 4) (hx : x ≤ 4) (hy : y ≤ 4) where
  abbrev counted : ℕ
  counted = no_counts + count_word p w x y

  -- the test of a byte is the test of the word from this byte up
  byte : (bit k n above : ℕ) → k ≤ 4 → n ≤ 8 → counted / bit ≡ (127 - k + n + 256 * above) / 128 → over bit counted ≡ ltb k n
  byte bit k n above hk hn e = ap (λ (m : ℕ). eqb (m % 2) 1) e ∙ top_bit k n above hk hn

  over_positions : over 128 counted ≡ ltb 4 p
  over_positions = byte 128 4 p (126 + w + 256 * (125 + x + 256 * (125 + y))) (omega arith) hp (omega arith)

  over_wide : over (256 * 128) counted ≡ ltb 1 w
  over_wide = byte (256 * 128) 1 w (125 + x + 256 * (125 + y)) (omega arith) (omega arith) (omega arith)

  over_x : over (65536 * 128) counted ≡ ltb 2 x
  over_x = byte (65536 * 128) 2 x (125 + y) (omega arith) (omega arith) (omega arith)

  over_y : over (16777216 * 128) counted ≡ ltb 2 y
  over_y = byte (16777216 * 128) 2 y 0 (omega arith) (omega arith) (omega arith)

-- ---- the rules

-- a line of at most four slots that were read
abbrev pub Good : List Slot → Type 0
Good xs = (length xs ≤ 4) × All Valid xs

record Few (xs : List Slot) : Type 0 where
  pub few_positions : total positions xs ≤ 8
  pub few_wide : count wide xs ≤ 4
  pub few_x : count (for_block 0) xs ≤ 4
  pub few_y : count (for_block 1) xs ≤ 4

few : (xs : List Slot) → length xs ≤ 4 → Few xs
few xs h =
    record {
      few_positions = omega (arith, total_few positions 2 (λ x. pick_few (wide x) (omega arith) (omega arith)) xs);
      few_wide = omega (arith, counted wide);
      few_x = omega (arith, counted (for_block 0));
      few_y = omega (arith, counted (for_block 1));
    }
  where
    counted : (f : Slot → Bool) → count f xs ≤ 1 * length xs
    counted f = total_few (λ x. one (f x)) 1 (λ x. pick_few (f x) (omega arith) (omega arith)) xs

-- the counts after one more slot are those of the list with it
one_more : (ps : List Slot) (x : Slot) → All Valid (ps ++ (x ∷ []))
    → let xs = ps ++ (x ∷ []) in
    (seen_in ps).counts + slot_counts x
    ≡ no_counts + count_word (total positions xs) (count wide xs) (count (for_block 0) xs) (count (for_block 1) xs)
one_more ps x v =
    let a = counts_from none_seen ps in
    let b = total_append slot_counts ps (x ∷ []) in
    let c = line_counts (ps ++ (x ∷ [])) v in
    omega arith

module _ (ps : List Slot) (x : Slot) (g : Good (ps ++ (x ∷ []))) where
  crowded_is : breaks4 ps x ≡ rule4 (ps ++ (x ∷ []))
  crowded_is =
      let xs = ps ++ (x ∷ []) in
      let h = few xs g.0 in
      rw (one_more ps x g.1)
      (ap₂ ◌||◌
      (over_positions _ _ _ _ h.few_positions h.few_wide h.few_x h.few_y)
      (over_wide _ _ _ _ h.few_positions h.few_wide h.few_x h.few_y))

  full_is : breaks6 ps x ≡ rule6 (ps ++ (x ∷ []))
  full_is =
      let xs = ps ++ (x ∷ []) in
      let h = few xs g.0 in
      rw (one_more ps x g.1)
      (ap₂ ◌||◌
      (over_x _ _ _ _ h.few_positions h.few_wide h.few_x h.few_y)
      (over_y _ _ _ _ h.few_positions h.few_wide h.few_x h.few_y))

-- sums above a limit stay above it
sums_grow : (f g : Slot → ℕ) (m n : ℕ) (ps qs : List Slot)
    → (ltb m (total f ps) || ltb n (total g ps)) ≡ true
    → (ltb m (total f (ps ++ qs)) || ltb n (total g (ps ++ qs))) ≡ true
sums_grow f g m n ps qs e =
    ⊎_elim
    (λ h. or_left (ltb n (total g (ps ++ qs)))
    (lt-ltb m (total f (ps ++ qs)) (omega (arith, ltb-true m (total f ps) h, total_append f ps qs))))
    (λ h. or_right (ltb m (total f (ps ++ qs)))
    (lt-ltb n (total g (ps ++ qs)) (omega (arith, ltb-true n (total g ps) h, total_append g ps qs))))
    (or_cases (ltb m (total f ps)) (ltb n (total g ps)) e)

absorbed : (a b : Bool) → (a ≡ true → b ≡ true) → b ≡ (a || b)
absorbed true b h = h refl
absorbed false b h = refl

module _ (ps : List Slot) (x : Slot) (g : Good (ps ++ (x ∷ []))) where
  pub four_more : rule4 (ps ++ (x ∷ [])) ≡ (rule4 ps || breaks4 ps x)
  four_more =
      rw (crowded_is ps x g)
      (absorbed (rule4 ps) (rule4 (ps ++ (x ∷ []))) (sums_grow positions (λ y. one (wide y)) 4 1 ps (x ∷ [])))

  pub six_more : rule6 (ps ++ (x ∷ [])) ≡ (rule6 ps || breaks6 ps x)
  six_more =
      rw (full_is ps x g)
      (absorbed (rule6 ps) (rule6 (ps ++ (x ∷ [])))
      (sums_grow (λ y. one (for_block 0 y)) (λ y. one (for_block 1 y)) 2 2 ps (x ∷ [])))

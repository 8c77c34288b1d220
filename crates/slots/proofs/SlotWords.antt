-- Reading loses nothing: a slot that was read is exactly the words that it was read from.
use mathlib.Core.Path.{◌≡◌, refl, ◌∙◌}
use mathlib.Core.Bool.{true}
use mathlib.Core.List.{List, [], ◌∷◌}
use Prim.Native.Nat.{ℕ, ◌+◌, ◌*◌}
use native.Mathlib.Omega.{arith}
use lib.ListN.{length, get_or}
use lib.Dec.{leb}
use borrow.Author.Tests.{eqb-true, leb-true}
use Rattle.std.specs.Prelude.{Ok}
use Rattle.slots.specs.Slots.{between, dab_block, width_in, file_in, number_in, field_words, read_words, read_fields}
use Rattle.slots.specs.SlotWords.{words_of_slot}
use Rattle.slots.specs.declared.slot.Slot.{Slot}
use Rattle.slots.proofs.Tests.{and_left, and_right}
use Rattle.slots.proofs.Reading.{by_family, six_read}

-- a list of six is its six entries
six : (w : List ℕ) → length w ≡ field_words
    → get_or w 0 0 ∷ get_or w 1 0 ∷ get_or w 2 0 ∷ get_or w 3 0 ∷ get_or w 4 0 ∷ get_or w 5 0 ∷ [] ≡ w
six (a ∷ b ∷ c ∷ d ∷ e ∷ g ∷ []) h = refl
six w h = absurd (omega arith)

-- an access's target, put together again
target_is : (t : ℕ) → 65536 * width_in t + 256 * file_in t + number_in t ≡ t
target_is t = omega arith

-- an unused field is 0, by the test that the family's words passed
ruleset part = (eqb-true, and_left, and_right)

-- the op of a load through a data alignment buffer, by its block
dab_op : (op : ℕ) → between 24 25 op ≡ true → 24 + dab_block op ≡ op
dab_op op e =
    let l = leb-true 24 op (and_left (leb 24 op) (leb op 25) e) in
    let h = leb-true op 25 (and_right (leb 24 op) (leb op 25) e) in
    omega arith

ruleset ops = (and_left, and_right)

words_kept : (u op t f s i : ℕ) (x : Slot) → read_words u op t f s i ≡ Ok x → words_of_slot x ≡ u ∷ op ∷ t ∷ f ∷ s ∷ i ∷ []
words_kept u op t f s i x =
    by_family (λ y. words_of_slot y ≡ u ∷ op ∷ t ∷ f ∷ s ∷ i ∷ []) x u op t f s i
    (λ p h. let z : i ≡ 0 = search part depth 9 in cc)
    (λ p h. let z : i ≡ 0 = search part depth 9 in cc)
    (λ p h. cc)
    (λ p h. let z : i ≡ 0 = search part depth 9 in cc)
    (λ p h. cc)
    (λ p h. cc)
    (λ p h. let z : (s ≡ 0) × (i ≡ 0) = search part depth 9 in cc)
    (λ p h. let q = target_is t in cc)
    (λ p h. let z : s ≡ 32 = search part depth 9 in let q = dab_op op (search ops depth 9) in cc)
    (λ p h. let z : (s ≡ 0) × (i ≡ 0) = search part depth 9 in cc)

pub read_words_lem : (w : List ℕ) (x : Slot) → read_fields w ≡ Ok x → words_of_slot x ≡ w
read_words_lem w x e =
    let (six-long, read) = six_read w e in
    words_kept (get_or w 0 0) (get_or w 1 0) (get_or w 2 0) (get_or w 3 0) (get_or w 4 0) (get_or w 5 0) x read ∙ six w six-long

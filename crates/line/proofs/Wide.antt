-- Which words are immediates outside -128..127.
use mathlib.Core.Path.{◌≡◌, ap, ◌∙◌}
use mathlib.Core.Bool.{Bool, false, ◌&&◌, ◌||◌, and_assoc, and-true}
use Prim.Native.Nat.{ℕ, suc, ◌-◌, ◌≤◌, ◌<◌}
use native.Mathlib.Omega.{arith}
use lib.Dec.{ltb, leb, eqb}
use lib.IntN.{pos, negsuc}
use lib.Signed.{lt_z}
use borrow.Author.Tests.{lt-ltb, le-ltb, le-leb}
use Rattle.bits.specs.Signed.{signed, overflows}
use Rattle.bits.proofs.Integers.{by_order, pos_sub, sub_lt}
use Rattle.line.specs.Rules.{wide_immediate}

outside : (i : ℕ) → i < 4294967296 → (leb 128 i && ltb i 4294967168) ≡ overflows 8 (signed 32 i)
unfolding signed overflows
outside i h =
    by_order ((leb 128 i && ltb i 4294967168) ≡ overflows 8 (signed 32 i)) 2147483648 i
    (λ l. rw (le-ltb i 2147483648 l, pos_sub i 4294967296, sub_lt i 4294967296 h) (negative l))
    (λ l. rw (lt-ltb i 2147483648 l, lt-ltb i 4294967168 (omega arith)) (and-true (leb 128 i)))
  where
    negative : 2147483648 ≤ i
        → (leb 128 i && ltb i 4294967168)
        ≡ (lt_z (negsuc (4294967296 - suc i)) (negsuc 127) || lt_z (pos 127) (negsuc (4294967296 - suc i)))
    negative l =
        rw (le-leb 128 i (omega arith))
        (by_order (ltb i 4294967168 ≡ (ltb 127 (4294967296 - suc i) || false)) 4294967168 i
        (λ m. rw (le-ltb i 4294967168 m, le-ltb 127 (4294967296 - suc i) (omega arith)))
        (λ m. rw (lt-ltb i 4294967168 m, lt-ltb 127 (4294967296 - suc i) (omega arith))))

pub wide_word : (s i : ℕ) → i < 4294967296 → (eqb s 32 && leb 128 i && ltb i 4294967168) ≡ wide_immediate s i
wide_word s i h = and_assoc (eqb s 32) (leb 128 i) (ltb i 4294967168) ∙ ap (λ (b : Bool). eqb s 32 && b) (outside i h)

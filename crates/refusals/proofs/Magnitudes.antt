-- A word cast to a signed one.
use Prim.Native.Nat.{ℕ, suc, ◌-◌, ◌^◌, ◌≤◌, ◌<◌}
use mathlib.Core.Path.{◌≡◌, sym, ap, ◌∙◌}
use native.Mathlib.Omega.{arith}
use Rattle.std.proofs.Common.{w32, to_z}
use mir.Facts.{to_z_pos, to_z-neg}
use Rattle.bits.specs.Signed.{signed}
use Rattle.bits.proofs.Integers.{by_order}
use Rattle.bits.proofs.SignedWords.{signed_low, signed_high}

pub signed_is : (w : ℕ) → w < 2 ^ 32 → to_z w32 w ≡ signed 32 w
signed_is w u =
    by_order (to_z w32 w ≡ signed 32 w) (2 ^ 31) w
    (λ h. ap (to_z w32) (back h) ∙ to_z-neg w32 (2 ^ 32 - suc w) (omega arith) ∙ sym (signed_high w h u))
    (λ h. to_z_pos w32 h ∙ sym (signed_low w h))
  where
    back : 2 ^ 31 ≤ w → w ≡ 2 ^ 32 - suc (2 ^ 32 - suc w)
    back h = omega arith

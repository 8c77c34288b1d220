-- Sums that saturate.
use Rattle.std.specs.Prelude.{ℕ, ℤ}
use Rattle.bits.specs.Signed.{overflows, saturate}
use Rattle.bits.specs.declared.signed.Saturated.{Saturated}
use Rattle.bits.specs.declared.signed.Width.{Width}
use Rattle.bits.specs.declared.signed.Width.TheVariants.{Short, Word}

-- the bits of a width
abbrev pub bits : Width → ℕ
bits Short = 16
bits Word = 32

-- a sum z, saturated signed at n bits, and whether it saturated
unfoldable pub sat : ℕ → ℤ → Saturated
sat n z = record { value = saturate n z; over = overflows n z }

use Rattle.std.proofs.Common.{refl}
use Rattle.text.proofs.numerals.is_hex.Goals as goal

pub returns : goal.returns
returns c = rw (c.byte_at.ensures, c.byte_at-2.ensures) refl

use mathlib.Core.Path.{◌≡◌, ap, ◌∙◌}
use native.Mathlib.Omega.{arith}
use lib.IntN.{pos, neg_ℤ, ◌-ℤ◌}
use mir.Syntax.{w8}
use Rattle.std.proofs.lemmas.Int.{ints, to_z-of_z}
use Rattle.bits.specs.Signed.{signed}
use Rattle.bits.proofs.SignedWords.{read, read_is, cast8_is}
use Rattle.clu.proofs.Terms.{times_plus, times_minus}
use Rattle.clu.proofs.despread.signed_byte.Goals as goal

pub returns-then-set : goal.returns-then-set
returns-then-set c =
    let e : read c.from-y.result ≡ signed 8 c.args.x = read_is c.from-y.result c.from-y.type_inv ∙ c.from-y.ensures
    ∙ to_z-of_z w8 c.cast_signed.result (record { sfits = c.cast_signed.type_inv }) ∙ c.cast_signed.ensures
    ∙ cast8_is c.args.x (omega arith) in
    let f : read (pos 0 -ℤ read c.from-y.result) ≡ neg_ℤ (read c.from-y.result) = omega (arith, ints) in
    rw c.if-set.true (rw times_minus (f ∙ ap neg_ℤ e), omega (arith, ints))

pub returns-else-set : goal.returns-else-set
returns-else-set c =
    let e : read c.from-y.result ≡ signed 8 c.args.x = read_is c.from-y.result c.from-y.type_inv ∙ c.from-y.ensures
    ∙ to_z-of_z w8 c.cast_signed.result (record { sfits = c.cast_signed.type_inv }) ∙ c.cast_signed.ensures
    ∙ cast8_is c.args.x (omega arith) in
    rw c.if-set.false (rw times_plus e, omega (arith, ints))

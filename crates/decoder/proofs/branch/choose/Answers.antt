use mathlib.Core.Path.{◌≡◌, ap₂, ◌∙◌}
use native.Mathlib.Omega.{arith}
use lib.IntN.{◌+ℤ◌, ◌-ℤ◌}
use lib.Signed.{lt_z}
use Rattle.std.specs.Int.{int_max}
use Rattle.std.proofs.lemmas.Int.{ints}
use Rattle.bits.proofs.SignedWords.{read, read_is}
use Rattle.clu.proofs.Lanes.{max_is}
use Rattle.decoder.proofs.branch.choose.Goals as goal

pub returns : goal.returns
returns c =
    let a = c.args in
    let subtracted : read (read a.lower -ℤ read c.from.result) ≡ a.lower -ℤ a.g = omega (arith, ints) in
    let added : read (read a.upper +ℤ read c.from-2.result) ≡ a.upper +ℤ a.g = omega (arith, ints) in (
      read_is c.max.result c.max.type_inv ∙ c.max.ensures.value ∙ ap₂ int_max subtracted added ∙ max_is (a.lower -ℤ a.g) (a.upper +ℤ a.g),
      ap₂ lt_z subtracted added,
    )

use Rattle.std.proofs.Common.{◌≡◌, ℕ, ◌+◌, ◌%◌, ◌^◌, eqb, pos, ◌+ℤ◌, ap, arith}
use mir.Syntax.{w64}
use mir.Val.{to_z, of_z}
use Rattle.std.proofs.lemmas.Int.{ints}
use Rattle.bits.specs.Pick.{pick}
use Rattle.word.specs.Addresses.{circular, circular_sum}
use Rattle.word.proofs.WrapAround.{wrap_around_is}
use Rattle.word.proofs.circular.circular.Goals as goal

pub returns : goal.returns
unfolding circular circular_sum
returns c =
    let b = c.args.buffer in
    let exact : to_z w64 (of_z w64 (to_z w64 (of_z w64 c.from.result) +ℤ to_z w64 (of_z w64 c.from-2.result))) ≡ pos c.args.index +ℤ c.signed.result = omega (arith, ints) in
    let first : to_z w64 (of_z w64 c.from-first.result) ≡ pos b.base = omega (arith, ints) in
    let end : to_z w64 b.end ≡ pos (b.base + b.length) = omega (arith, ints, b.end_is) in
    rw (c.select.ensures, c.select-wrapped.ensures, c.select-up.ensures, exact, first, end, c.signed.ensures)
    (ap (λ (x : ℕ). record { value = pick (eqb b.length 0) ((c.args.index + c.args.modifier) % 2 ^ 32) x })
    (wrap_around_is b.base b.length c.args.index c.args.modifier (omega arith) (omega arith)))

use mathlib.Core.Path.{◌≡◌}
use native.Mathlib.Omega.{arith}
use lib.IntN.{◌+ℤ◌}
use Rattle.std.proofs.lemmas.Int.{ints}
use Rattle.bits.proofs.SignedWords.{read}
use Rattle.clu.specs.Despread.{imaginary, b_i, b_q, d_i, d_q}
use Rattle.clu.proofs.Terms.{part_lt}
use Rattle.clu.proofs.despread.imaginary.Goals as goal

pub signed_byte-i-requires : goal.signed_byte-i-requires
signed_byte-i-requires c = omega (arith, part_lt c.args.quad c.args.k)

pub returns : goal.returns
unfolding imaginary b_i b_q d_i d_q
returns c =
    let i = c.signed_byte-i in
    let q = c.signed_byte-q in
    let e : read (read i.result +ℤ read q.result) ≡ i.result +ℤ q.result = omega (arith, ints) in (
      rw (e, i.ensures.0, q.ensures.0, c.flag.ensures, c.flag-2.ensures, c.part-d.ensures),
      omega (arith, ints),
    )

use native.Mathlib.Omega.{arith}
use native.Mathlib.Nat.{sub-zero}
use lib.ListN.{replicate, length-replicate}
use Rattle.image.proofs.LittleEndian.{front_loaded}
use Rattle.bytecheck.proofs.byte_image.code_by.Goals as goal

pub returns : goal.returns
returns g c =
    let front = front_loaded c.args.image.now (replicate g.row.WORDS 0) (simp length-replicate (omega arith)) in
    rw (c.check.ensures, c.load_words.ensures, rw sub-zero at front)

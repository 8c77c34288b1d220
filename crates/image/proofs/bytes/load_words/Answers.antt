use native.Mathlib.Omega.{arith}
use Rattle.image.proofs.LittleEndian.{word_stored, all_loaded}
use Rattle.image.proofs.bytes.load_words.Goals as goal

pub loop-i-preserved : goal.loop-i-preserved
loop-i-preserved c =
    word_stored _ _ _ c.loop-i.i _ (omega (arith, c.min-i-end.ensures)) (omega (arith, c.min-i-end.ensures)) c.loop-i.invariant
    c.from_le_bytes.ensures

pub returns : goal.returns
returns c = all_loaded _ _ _ c.loop-i.i (omega (arith, c.min-i-end.ensures)) c.loop-i.invariant

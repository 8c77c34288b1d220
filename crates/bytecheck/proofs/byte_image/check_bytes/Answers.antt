use mathlib.Core.Path.{◌≡◌, sym}
use mathlib.Core.List.{List}
use Prim.Native.Nat.{ℕ}
use Rattle.image.specs.declared.bytes.BytesRefusal.{BytesRefusal}
use Rattle.image.specs.declared.bytes.BytesRefusal.TheVariants.{TooLong, BrokenWord}
use Rattle.image.specs.Bytes.{refusal_code, bytes_refusal, words_of_bytes}
use Rattle.image.specs.Check.{check_of}
use Rattle.image.proofs.LittleEndian.{accepted}
use Rattle.bytecheck.specs.ByteCheck.{check_of_bytes}
use Rattle.bytecheck.proofs.byte_image.check_bytes.Goals as goal

refused : (bs : List ℕ) (why : BytesRefusal) → refusal_code why ≡ bytes_refusal bs → refusal_code why ≡ check_of_bytes bs
unfolding check_of_bytes
refused bs TooLong e = rw (← e)
refused bs BrokenWord e = rw (← e)

checked : (bs : List ℕ) {x : ℕ} → 0 ≡ bytes_refusal bs → x ≡ (check_of (words_of_bytes bs)).code → x ≡ check_of_bytes bs
unfolding check_of_bytes
checked bs e f = rw (← e) f

pub returns-in-Err : goal.returns-in-Err
returns-in-Err c = rw c.code.ensures (refused _ _ c.in-Err.ensures)

pub code_of-requires : goal.code_of-requires
code_of-requires c = accepted _ (sym c.in_default.ensures)

pub returns : goal.returns
returns c = checked _ c.in_default.ensures c.code_of.ensures

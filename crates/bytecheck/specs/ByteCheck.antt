-- The check of an image's bytes, as 01 exports it to the users' C debugger: image bytes in, code out.
use Rattle.std.specs.Prelude.{ℕ, List, eqb}
use Rattle.bits.specs.Pick.{pick}
use Rattle.image.specs.Bytes.{bytes_refusal, words_of_bytes}
use Rattle.image.specs.Check.{check_of}

-- what the bytes are refused for, else the code of the check call on their words
unfoldable pub check_of_bytes : List ℕ → ℕ
check_of_bytes bs = pick (eqb (bytes_refusal bs) 0) (check_of (words_of_bytes bs)).code (bytes_refusal bs)

-- What a read of the vector file gave.
use Rattle.std.specs.Prelude.{ℕ, List, get_or, ltb, eqb}
use Rattle.std.specs.declared.result.Result.{Result}
use Rattle.std.specs.declared.result.Result.TheVariants.{Ok, Err}
use Rattle.bits.specs.Pick.{pick}
use Rattle.image.specs.Bytes.{words_of_bytes}
use Rattle.input.specs.declared.Unread.{Unread}
use Rattle.replay.specs.declared.file.NoWord as word
use Rattle.replay.specs.declared.file.Cut as cut

-- four bytes were asked for, and these stand in the buffer
unfoldable pub word_of : Result ℕ Unread → List ℕ → Result ℕ word.NoWord
word_of (Err e) bs = Err word.TheVariants.Failed
word_of (Ok n) bs =
    pick (eqb n 0) (Err word.TheVariants.Ended)
    (pick (ltb n 4) (Err word.TheVariants.Cut) (Ok (get_or (words_of_bytes bs) 0 0)))

-- a record of n bytes was asked for
abbrev pub ending_of : Result ℕ Unread → ℕ → Result Unit cut.Cut
ending_of (Err e) n = Err cut.TheVariants.Failed
ending_of (Ok got) n = pick (eqb got n) (Ok tt) (Err cut.TheVariants.InRecord)

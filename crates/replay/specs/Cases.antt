-- The cases of a file: what each comes to, and their totals.
use Rattle.std.specs.Prelude.{ℕ, ◌+◌, ◌-◌, ◌*◌, ◌≤◌, ◌≡◌, Bool, List, take, ltb}
use Rattle.std.specs.declared.result.Result.{Result}
use Rattle.std.specs.declared.result.Result.TheVariants.{Ok, Err}
use Rattle.bits.specs.Pick.{pick}
use Rattle.replay.specs.Case.{record_words, verdict_of}
use Rattle.replay.specs.declared.record.Fault.TheVariants.{Long}
use Rattle.replay.specs.declared.case.Failure.{Failure}
use Rattle.replay.specs.declared.case.Failure.TheVariants.{Broken}
use Rattle.replay.specs.declared.file.NoWord.{NoWord}
use Rattle.replay.specs.declared.file.NoWord.TheVariants as word
use Rattle.replay.specs.declared.file.Cut.{Cut}
use Rattle.replay.specs.declared.file.Cut.TheVariants as cut
use Rattle.replay.specs.declared.cases.Total.{Total}

-- where the file ends of a record whose length it does not give
abbrev pub cut_of : NoWord → Cut
cut_of word.Ended = cut.Before
cut_of word.Cut = cut.InLength
cut_of word.Failed = cut.Failed

-- the verdict of a record that was read whole
abbrev pub if_whole : Result Unit Cut → Result Unit Failure → Result Unit Failure
if_whole (Ok u) v = v
if_whole (Err c) v = Ok tt

-- of a record with n words, whose bytes are at the front of bs where it was read whole and is not too long
unfoldable pub judged : ℕ → Result Unit Cut → List ℕ → Result Unit Failure
judged n e bs = pick (ltb record_words n) (Err (Broken (Long n))) (if_whole e (verdict_of (take (4 * n) bs)))

-- of a file with so many cases, so many of them replayed and differing: of those where a read failed behind them, else of all, and those
-- that the file does not hold differ
unfoldable pub total_of : ℕ → ℕ → ℕ → Bool → Result Total Total
total_of count replayed differing failed =
    pick failed (Err record { cases = replayed; differing = differing })
    (Ok record { cases = count; differing = differing + (count - replayed) })

-- what is promised of every file's total: of all cases, or of those before a failed read
abbrev pub Within : ℕ → Result Total Total → Type 0
Within count (Ok t) = (t.cases ≡ count) × (t.differing ≤ t.cases)
Within count (Err t) = (t.cases ≤ count) × (t.differing ≤ t.cases)

use mathlib.Core.Path.{refl, ap}
use Rattle.std.proofs.Common.{Ok}
use Rattle.slots.proofs.Picks.{lt_taken, lt_left, eq_taken, eq_left}
use Rattle.replay.specs.File.{word_of}
use Rattle.replay.proofs.FirstWord.{first_loaded}
use Rattle.replay.proofs.file.word_of.Goals as goal

pub returns-in-Err : goal.returns-in-Err
unfolding word_of
returns-in-Err c = rw c.in-Err.is refl

pub returns-then-n-eq0 : goal.returns-then-n-eq0
unfolding word_of
returns-then-n-eq0 c = rw c.in-Ok.is (eq_taken _ 0 _ _ c.if-n-eq0.true refl)

pub returns-then-n-lt4 : goal.returns-then-n-lt4
unfolding word_of
returns-then-n-lt4 c = rw c.in-Ok.is (eq_left _ 0 _ _ c.if-n-eq0.false (lt_taken _ 4 _ _ c.if-n-lt4.true refl))

pub returns : goal.returns
unfolding word_of
returns c =
    rw c.in-Ok.is (eq_left _ 0 _ _ c.if-n-eq0.false (lt_left _ 4 _ _ c.if-n-lt4.false (ap Ok (first_loaded _ c.load_words.ensures))))

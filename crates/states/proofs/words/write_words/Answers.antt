use mathlib.Core.Path.{sym, ◌∙◌}
use native.Mathlib.Omega.{arith}
use Rattle.slots.proofs.Picks.{eq_taken}
use Rattle.states.proofs.States.{words_gathered}
use Rattle.states.proofs.words.write_words.Goals as goal

pub returns-then-words-eq-STATE_WORDS : goal.returns-then-words-eq-STATE_WORDS
returns-then-words-eq-STATE_WORDS c =
    eq_taken _ _ _ _ c.if-words-eq-STATE_WORDS.true
    (c.copy_from_slice.ensures.after ∙ sym (words_gathered c.args.files.now (omega arith) c.fits-files))

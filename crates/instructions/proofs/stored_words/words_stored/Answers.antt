use mathlib.Core.Path.{sym, ◌∙◌}
use Rattle.slots.proofs.Others.{not_access}
use Rattle.sets.specs.Ranges.{no_words}
use Rattle.instructions.specs.StoredWords.{range_stored}
use Rattle.instructions.proofs.stored_words.words_stored.Goals as goal

pub returns-in_default : goal.returns-in_default
unfolding range_stored
returns-in_default c =
    c.no_words.ensures ∙ sym (not_access no_words _ c.args.slot c.in_default.not-Access)

pub returns : goal.returns
unfolding range_stored
returns c =
    rw (c.in-Access.is, c.words_at.ensures, c.select.ensures, c.is_store.ensures, c.address-addr.ensures)

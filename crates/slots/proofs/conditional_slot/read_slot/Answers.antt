use mathlib.Core.Path.{sym, ◌∙◌}
use Rattle.slots.proofs.ConditionalReads.{told_slot, modifier_refused, read_whole}
use Rattle.slots.proofs.conditional_slot.read_slot.Goals as goal

pub returns-then-not-modifier_fits : goal.returns-then-not-modifier_fits
returns-then-not-modifier_fits c =
    told_slot _
    (modifier_refused c.args.words.now c.if-words-ne-SLOT_WORDS.false c.read_fields.ensures.0
    c.in-Ok.is c.if-condition-gt-LAST_CONDITION.false (sym c.modifier_fits.ensures ∙ c.if-not-modifier_fits.true))

pub returns : goal.returns
returns c =
    told_slot _
    (read_whole c.args.words.now c.if-words-ne-SLOT_WORDS.false c.read_fields.ensures.0
    c.in-Ok.is c.if-condition-gt-LAST_CONDITION.false (sym c.modifier_fits.ensures ∙ c.if-not-modifier_fits.false))

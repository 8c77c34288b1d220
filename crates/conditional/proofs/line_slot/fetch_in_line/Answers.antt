use mathlib.Core.Path.{sym, ◌∙◌}
use Rattle.layout.specs.Layout.{machine_of}
use Rattle.conditional.proofs.LineSlots.{held_off, fetched_on}
use Rattle.conditional.proofs.line_slot.fetch_in_line.Goals as goal

pub returns-then-not-holds : goal.returns-then-not-holds
returns-then-not-holds c =
    let a = c.args in
    let mem = a.memory.now in
    sym (held_off (machine_of a.files.now mem) a.slot.now
    (sym (c.holds.ensures mem) ∙ c.if-not-holds.true))

pub returns : goal.returns
returns c =
    let a = c.args in
    let mem = a.memory.now in
    fetched_on (machine_of a.files.now mem) a.slot.now
    (sym (c.holds.ensures mem) ∙ c.if-not-holds.false)
    c.fetch_slot-v.result c.holds-loaded.result c.fetch_slot-v.type_inv.1.0.1 (c.holds-loaded.ensures mem)
    c.fetch_slot-v.ensures c.select.ensures

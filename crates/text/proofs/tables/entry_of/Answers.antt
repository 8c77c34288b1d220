use Rattle.std.proofs.Common.{◌/◌, length, arith}
use Rattle.text.proofs.Scans.{first_entry, entry_found, entry_passed, no_entry}
use Rattle.text.proofs.tables.entry_of.Goals as goal

pub loop-i-init : goal.loop-i-init
loop-i-init c = first_entry c.args.table.now c.args.word.now

pub returns-then-named : goal.returns-then-named
returns-then-named c =
    let l = c.loop-i in
    let a = c.args in (
      entry_found a.table.now a.word.now (length a.table.now / 8) l.i _ (omega arith) c.named.ensures c.if-named.true l.invariant,
      omega arith,
    )

pub loop-i-preserved : goal.loop-i-preserved
loop-i-preserved c =
    let l = c.loop-i in
    let a = c.args in
    entry_passed a.table.now a.word.now (length a.table.now / 8) l.i _ (omega arith) c.named.ensures c.if-named.false l.invariant

pub returns : goal.returns
returns c =
    let l = c.loop-i in
    let a = c.args in
    (no_entry a.table.now a.word.now (length a.table.now / 8) l.i (omega arith) l.invariant, tt)

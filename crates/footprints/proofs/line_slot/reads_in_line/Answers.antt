use lib.Dec.{eqb}
use borrow.Author.Tests.{eq-eqb, ne_eqb, eqb-true}
use Rattle.slots.proofs.Tests.{and_left, and_right}
use Rattle.sets.specs.PlaceSets.{joined}
use Rattle.footprints.specs.Footprints.{condition_bits, before, reads_in}
use Rattle.footprints.proofs.line_slot.reads_in_line.Goals as goal

-- without a condition and a load there is no flag group to join
pub returns-then-condition-load : goal.returns-then-condition-load
unfolding reads_in before condition_bits joined
returns-then-condition-load c =
    let x = c.args.fetched.now.slot in
    let none = eqb x.condition 0 in
    let never = eqb x.load 13 in
    rw (
      eq-eqb _ 1 c.if-v-eq1.true,
      eqb-true x.condition 0 (and_left none never c.if-condition-load.true),
      eqb-true x.load 13 (and_right none never c.if-condition-load.true),
    )
    c.slot_reads-reads.ensures

pub returns-then-v-eq1 : goal.returns-then-v-eq1
unfolding reads_in
returns-then-v-eq1 c = rw (eq-eqb _ 1 c.if-v-eq1.true, c.with_condition-then-v-eq1.ensures, c.with_condition.ensures, c.slot_reads-reads.ensures)

pub returns : goal.returns
unfolding reads_in
returns c = rw (ne_eqb _ 1 c.if-v-eq1.false, c.with_condition-2.ensures, c.registers.ensures, c.words.ensures)

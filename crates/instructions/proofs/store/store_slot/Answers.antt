use borrow.Author.Tests.{eqb-true}
use Rattle.instructions.proofs.store.store_slot.Goals as goal

pub circular_held-requires : goal.circular_held-requires
circular_held-requires c =
    eqb-true _ _ (rw c.in-Arith.is at c.requires)

pub circular_held-requires-in-DabLoad : goal.circular_held-requires-in-DabLoad
circular_held-requires-in-DabLoad c =
    eqb-true _ _ (rw c.in-DabLoad.is at c.requires)

pub returns-in-Alu : goal.returns-in-Alu
returns-in-Alu c = rw c.in-Alu.is (c.store_alu.ensures _)

pub returns-in-Shifter : goal.returns-in-Shifter
returns-in-Shifter c = rw c.in-Shifter.is (c.store_shifter.ensures _)

pub returns-in-Trellis : goal.returns-in-Trellis
returns-in-Trellis c = rw c.in-Trellis.is (c.store_trellis.ensures _)

pub returns-in-Tmax : goal.returns-in-Tmax
returns-in-Tmax c = rw c.in-Tmax.is (c.store_tmax.ensures _)

pub returns-in-Despread : goal.returns-in-Despread
returns-in-Despread c = let e = c.in-Despread.is in rw e (rw e at (c.store_despread.ensures
    c.args.memory.now))

pub returns-in-Transfer : goal.returns-in-Transfer
returns-in-Transfer c = rw c.in-Transfer.is (c.store_transfer.ensures _)

pub returns-in-Arith : goal.returns-in-Arith
returns-in-Arith c =
    let b = c.circular_held.ensures in
    rw c.in-Arith.is (rw (b.0, b.1) at (c.store_arith.ensures c.args.memory.now))

pub returns-in-Buffer : goal.returns-in-Buffer
returns-in-Buffer c = rw c.in-Buffer.is (c.store_buffer.ensures _)

pub returns-in-Access : goal.returns-in-Access
returns-in-Access c = let e = c.in-Access.is in rw e (rw e
    at c.store_access.ensures)

pub returns-in-DabLoad : goal.returns-in-DabLoad
returns-in-DabLoad c =
    let b = c.circular_held-in-DabLoad.ensures in
    rw c.in-DabLoad.is (rw (b.0, b.1) at (c.store_dab_load.ensures c.args.memory.now))

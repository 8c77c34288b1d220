use Rattle.instructions.proofs.fetch.fetch_slot.Goals as goal

pub returns-in-Alu : goal.returns-in-Alu
returns-in-Alu c = rw c.in-Alu.is (c.fetch_alu.ensures _)

pub returns-in-Shifter : goal.returns-in-Shifter
returns-in-Shifter c = rw c.in-Shifter.is (c.fetch_shifter.ensures _)

pub returns-in-Trellis : goal.returns-in-Trellis
returns-in-Trellis c = rw c.in-Trellis.is (c.fetch_trellis.ensures _)

pub returns-in-Tmax : goal.returns-in-Tmax
returns-in-Tmax c = rw c.in-Tmax.is (c.fetch_tmax.ensures _)

pub returns-in-Despread : goal.returns-in-Despread
returns-in-Despread c = let e = c.in-Despread.is in rw e (rw e at (c.fetch_despread.ensures
    c.args.memory.now))

pub returns-in-Transfer : goal.returns-in-Transfer
returns-in-Transfer c = rw c.in-Transfer.is (c.fetch_transfer.ensures _)

pub returns-in-Arith : goal.returns-in-Arith
returns-in-Arith c = rw c.in-Arith.is (c.fetch_arith.ensures _)

pub returns-in-Buffer : goal.returns-in-Buffer
returns-in-Buffer c = rw c.in-Buffer.is (c.fetch_buffer.ensures _)

pub returns-in-Access : goal.returns-in-Access
returns-in-Access c = let e = c.in-Access.is in rw e (rw e at c.fetch_access.ensures)

pub returns-in-DabLoad : goal.returns-in-DabLoad
returns-in-DabLoad c = rw c.in-DabLoad.is c.fetch_dab_load.ensures

use Rattle.sets.specs.StoredSets.{stored_set, access_stores}
use Rattle.instructions.specs.StoredWords.{range_stored}
use Rattle.footprints.specs.Footprints.{flags_stored, slot_stores}
use Rattle.sets.proofs.PlaceSets.{joined_none_right}
use Rattle.footprints.proofs.slot_stores.slot_stores.Goals as goal

pub returns-in-Alu : goal.returns-in-Alu
unfolding slot_stores flags_stored stored_set range_stored access_stores
returns-in-Alu c = rw (c.in-Alu.is, c.with_flags.ensures, c.stored_r.ensures)

pub returns-in-Shifter : goal.returns-in-Shifter
unfolding slot_stores flags_stored stored_set range_stored access_stores
returns-in-Shifter c = rw (c.in-Shifter.is, c.with_flags-in-Shifter.ensures, c.stored_r-in-Shifter.ensures, c.select.ensures)

pub returns-in-Trellis : goal.returns-in-Trellis
unfolding slot_stores flags_stored stored_set range_stored access_stores
returns-in-Trellis c = rw (c.in-Trellis.is, c.with_flags-in-Trellis.ensures, c.stored_tr.ensures)

pub returns-in-Tmax : goal.returns-in-Tmax
unfolding slot_stores flags_stored stored_set range_stored access_stores
returns-in-Tmax c = rw (c.in-Tmax.is, c.with_flags-in-Tmax.ensures, c.stored_r-in-Tmax.ensures)

pub returns-in-Despread : goal.returns-in-Despread
unfolding slot_stores flags_stored stored_set range_stored access_stores
returns-in-Despread c = rw (c.in-Despread.is, c.with_flags-in-Despread.ensures, c.stored_despread.ensures)

pub returns-in-Transfer : goal.returns-in-Transfer
unfolding slot_stores flags_stored stored_set range_stored access_stores
returns-in-Transfer c = rw (c.in-Transfer.is, c.registers.ensures, c.stored_transfer.ensures, joined_none_right _)

pub returns-in-Arith : goal.returns-in-Arith
unfolding slot_stores flags_stored stored_set range_stored access_stores
returns-in-Arith c = rw (c.in-Arith.is, c.with_flags-in-Arith.ensures, c.stored_arith.ensures)

pub returns-in-Buffer : goal.returns-in-Buffer
unfolding slot_stores flags_stored stored_set range_stored access_stores
returns-in-Buffer c = rw (c.in-Buffer.is, c.registers-in-Buffer.ensures, c.stored_buffer.ensures, joined_none_right _)

pub returns-in-Access : goal.returns-in-Access
unfolding slot_stores flags_stored stored_set range_stored access_stores
returns-in-Access c = rw (c.words_stored-words.ensures, c.in-Access.is, c.stored_access-stored.ensures, joined_none_right _)

pub returns-in-DabLoad : goal.returns-in-DabLoad
unfolding slot_stores flags_stored stored_set range_stored access_stores
returns-in-DabLoad c = rw (c.in-DabLoad.is, c.registers-in-DabLoad.ensures, c.stored_dab_load.ensures, joined_none_right _)

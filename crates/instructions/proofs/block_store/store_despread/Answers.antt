use Rattle.machine.specs.Fetches.{assign, puts}
use Rattle.machine.proofs.Spans.{puts_append}
use Rattle.layout.specs.Layout.{machine_of}
use Rattle.instructions.specs.Storing.{store_despread}
use Rattle.instructions.proofs.OtherFamilies.{no_despread_stored}
use Rattle.instructions.proofs.block_store.store_despread.Goals as goal

pub returns-in_default : goal.returns-in_default
returns-in_default c =
    λ mem. no_despread_stored (machine_of c.args.files.now mem) c.args.slot
    c.args.loaded c.args.v c.in_default.not-Despread

pub returns : goal.returns
unfolding store_despread assign puts
returns c =
    λ mem. rw c.in-Despread.is (rw (puts_append, puts_append, puts_append)
    (rw (c.write.ensures mem, c.flag_group.ensures, c.put-3.ensures mem, c.select-n.ensures)
    (rw (c.in_four-at.ensures.0, c.put-2.ensures mem, c.old_words-n.ensures, c.in_block-at-2.ensures.0)
    (rw (c.put.ensures mem, c.despread_words-n.ensures, c.in_block-at.ensures.0, c.shift_pair-t.ensures)
    (rw c.clu_of-o.ensures)))))

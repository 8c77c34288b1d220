use native.Mathlib.Omega.{arith}
use Rattle.machine.proofs.Spans.{puts_append}
use Rattle.layout.specs.Layout.{machine_of}
use borrow.Author.Tests.{eqb-true}
use Rattle.instructions.specs.Storing.{store_access}
use Rattle.instructions.proofs.Delivered.{moved_quad}
use Rattle.instructions.proofs.Stored.{none_of}
use Rattle.instructions.proofs.OtherFamilies.{no_access_stored}
use Rattle.instructions.proofs.ialu_store.store_access.Goals as goal

pub returns-in_default : goal.returns-in_default
returns-in_default c =
    no_access_stored (machine_of c.args.files.now c.args.memory.now)
    c.args.slot c.args.v c.in_default.not-Access

pub circular_held-requires : goal.circular_held-requires
circular_held-requires c =
    let e = c.in-Access.is in
    eqb-true _ _ (rw e at c.requires)

pub returns : goal.returns
unfolding store_access
returns c =
    rw c.in-Access.is (rw (puts_append, puts_append, none_of)
    (rw (c.save.ensures, moved_quad c.args.v (omega arith), c.after-2.ensures.0, c.select-n-3.ensures, c.address-a.ensures)
    (rw (c.put-2.ensures, c.after.ensures.0, c.ialu_file.ensures, c.select-n-2.ensures)
    (rw (c.select.ensures, c.keeps_index.ensures, c.updated-index.ensures, c.circular_held.ensures.0, c.circular_held.ensures.1, c.put.ensures, moved_quad c.args.v (omega arith))
    (rw (c.access_file.ensures, c.select-n.ensures, c.in_file-at.ensures.0, c.is_store-stores.ensures))))))

use Rattle.layout.specs.Layout.{machine_of}
use Rattle.instructions.proofs.Fetched.{despread_values}
use Rattle.instructions.proofs.OtherFamilies.{no_despread_held}
use Rattle.instructions.proofs.block_fetch.fetch_despread.Goals as goal

pub returns-in_default : goal.returns-in_default
returns-in_default c =
    λ mem. no_despread_held (machine_of c.args.files.now mem) c.args.slot
    c.args.loaded c.in_default.not-Despread

pub returns : goal.returns
returns c =
    λ mem. rw c.in-Despread.is (rw (c.hold.ensures, despread_values)
    (rw (c.read-old.ensures mem, c.flag_group.ensures)
    (rw (c.get.ensures mem, c.in_block-3.ensures.0, c.read_if-y2.ensures mem, c.in_four-2.ensures.0)
    (rw (c.read-y.ensures mem, c.in_four.ensures.0, c.read_if-x2.ensures mem, c.in_block-2.ensures.0)
    (rw (c.read-x.ensures mem, c.in_block.ensures.0))))))

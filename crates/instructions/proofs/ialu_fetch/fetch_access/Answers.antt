use Rattle.layout.specs.Layout.{machine_of}
use Rattle.instructions.proofs.Fetched.{access_values}
use Rattle.instructions.proofs.OtherFamilies.{no_access_held}
use Rattle.instructions.proofs.ialu_fetch.fetch_access.Goals as goal

pub returns-in_default : goal.returns-in_default
returns-in_default c =
    no_access_held (machine_of c.args.files.now c.args.memory.now)
    c.args.slot c.in_default.not-Access

pub returns : goal.returns
returns c =
    let mem = c.args.memory.now in
    rw c.in-Access.is (rw (c.hold.ensures, access_values)
    (rw (c.high_word-end_high.ensures, c.low_word-end_low.ensures, c.moved_word-f.ensures, c.moved_word-e.ensures)
    (rw (c.moved_word-d.ensures, c.moved_word-c.ensures, c.address.ensures, c.is_store.ensures)
    (rw (c.buffer-b.result.end_is, (c.buffer-b.ensures mem).0, (c.buffer-b.ensures mem).1, c.is_circular.ensures, c.operand-y.ensures mem, c.register-x.ensures mem)))))

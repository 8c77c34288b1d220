use Rattle.instructions.proofs.Fetched.{dab_load_values}
use Rattle.instructions.proofs.Delivered.{first_of_four}
use Rattle.instructions.proofs.dab_load.fetch_dab_load.Goals as goal

pub returns : goal.returns
returns c =
    let mem = c.args.memory.now in
    let ws = c.args.files.now in
    rw (c.hold.ensures, dab_load_values)
    (rw (c.high_word-end_high.ensures, c.low_word-end_low.ensures)
    (rw (c.get.ensures mem, c.in_four.ensures.0, c.load.ensures ws, c.after.ensures.0)
    (rw (c.quad_at.ensures, c.buffer-b.result.end_is, (c.buffer-b.ensures mem).0, (c.buffer-b.ensures mem).1, c.register-x.ensures mem, first_of_four))))

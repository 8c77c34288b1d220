use Rattle.instructions.proofs.Fetched.{arith_values}
use Rattle.instructions.proofs.ialu_fetch.fetch_arith.Goals as goal

pub returns : goal.returns
returns c =
    λ mem. rw (c.hold.ensures, arith_values)
    (rw (c.high_word-end_high.ensures, c.low_word-end_low.ensures, c.buffer-b.result.end_is, (c.buffer-b.ensures mem).0, (c.buffer-b.ensures mem).1, c.is_circular.ensures)
    (rw (c.operand-y.ensures mem, c.register-x.ensures mem)))

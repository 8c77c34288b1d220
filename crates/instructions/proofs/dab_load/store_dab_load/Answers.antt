use native.Mathlib.Omega.{arith}
use Rattle.machine.proofs.Spans.{puts_append}
use Rattle.instructions.specs.Storing.{store_dab_load}
use Rattle.instructions.proofs.Delivered.{first_of_four, moved_quad}
use Rattle.instructions.proofs.dab_load.store_dab_load.Goals as goal

pub returns : goal.returns
unfolding store_dab_load
returns c =
    λ mem.
    rw (puts_append, puts_append)
    (rw (c.put-3.ensures mem, c.after.ensures.0, c.ialu_file.ensures, c.select-n.ensures)
    (rw (c.circular-index.ensures, c.put-2.ensures mem, c.in_four.ensures.0, first_of_four, moved_quad c.args.v (omega arith))
    (rw (c.put.ensures mem, c.in_block.ensures.0, c.delivered-words.ensures))))

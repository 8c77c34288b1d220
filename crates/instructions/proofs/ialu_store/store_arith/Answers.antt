use Rattle.machine.specs.Fetches.{assign, puts}
use Rattle.machine.proofs.Spans.{puts_append}
use Rattle.instructions.specs.Storing.{store_arith}
use Rattle.instructions.proofs.ialu_store.store_arith.Goals as goal

pub returns : goal.returns
unfolding store_arith assign puts
returns c =
    λ mem. rw puts_append
    (rw (c.write.ensures mem, c.flag_group.ensures, c.put.ensures mem, c.after.ensures.0)
    (rw (c.ialu_file.ensures, c.select-n.ensures, c.ialu-o.ensures)))

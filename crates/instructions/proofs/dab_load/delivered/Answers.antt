use Rattle.instructions.specs.Held.{word}
use Rattle.instructions.proofs.Delivered.{delivered_read}
use Rattle.instructions.proofs.dab_load.delivered.Goals as goal

pub returns : goal.returns
returns c =
    let v = c.args.v in
    delivered_read (word 10 v) (word 11 v) (word 12 v) (word 13 v) (word 4 v) (word 5 v) (word 6 v) (word 7 v) (word 0 v)

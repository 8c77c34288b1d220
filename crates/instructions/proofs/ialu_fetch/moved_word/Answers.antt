use Rattle.slots.proofs.Picks.{picks}
use Rattle.instructions.specs.Operands.{moved_word}
use Rattle.instructions.proofs.ialu_fetch.moved_word.Goals as goal

pub returns-then-x : goal.returns-then-x
unfolding moved_word
returns-then-x c =
    rw (c.read.ensures c.args.memory.now, c.in_file.ensures.0, c.access_file.ensures)
    (search picks)

pub returns-then-q-x : goal.returns-then-q-x
unfolding moved_word
returns-then-q-x c =
    rw (c.load.ensures c.args.files.now, c.after.ensures.0)
    (search picks)

pub returns : goal.returns
unfolding moved_word
returns c = search picks

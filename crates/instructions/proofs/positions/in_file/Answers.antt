use Rattle.instructions.proofs.Stored.{block_or_none}
use Rattle.instructions.proofs.positions.in_file.Goals as goal

pub returns : goal.returns
returns c = (rw (c.in_block.ensures.0, c.select.ensures, block_or_none), c.in_block.ensures.1)

use Rattle.std.proofs.Common.{arith}
use Rattle.word.proofs.Swaps.{swap_stands}
use Rattle.word.proofs.reverse.swap_nibbles.Goals as goal

pub returns : goal.returns
returns c = swap_stands 4 _ _ (omega arith) (omega arith) tt tt tt c.args.w

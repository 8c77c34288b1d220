use lib.ListN.{length}
use Rattle.image.proofs.directory.+in_order.Given as goal

abbrev pub decreases-in_order : goal.decreases-in_order
decreases-in_order l = length l.pairs.now

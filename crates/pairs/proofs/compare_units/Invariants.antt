use Rattle.pairs.proofs.PairWalk.{Slots, Pairs}
use Rattle.pairs.proofs.compare_units.Given as goal

abbrev pub invariant-loop-later : goal.invariant-loop-later
invariant-loop-later l = Slots l.line l.pairs l.later

abbrev pub invariant-loop-earlier : goal.invariant-loop-earlier
invariant-loop-earlier l = Pairs l.line l.pairs l.later l.earlier

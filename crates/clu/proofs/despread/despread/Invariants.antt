use Rattle.clu.specs.Despread.{real, imaginary}
use Rattle.clu.proofs.Terms.{Summed}
use Rattle.clu.proofs.despread.despread.Given as goal

-- after i turns the sums are those of the first i parts
abbrev pub invariant-loop-i : goal.invariant-loop-i
invariant-loop-i l = Summed (real l.quad l.t) l.k l.i l.re × Summed (imaginary l.quad l.t) l.k l.i l.im

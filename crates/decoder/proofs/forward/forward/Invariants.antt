use Rattle.decoder.proofs.Passes.{Forwarded}
use Rattle.decoder.proofs.forward.forward.Given as goal

-- `decoder::forward::forward` meets its contract: after t turns the metrics and decisions are those of t stages.
abbrev pub invariant-loop-t : goal.invariant-loop-t
invariant-loop-t l = Forwarded l.g l.t l.metrics l.decisions

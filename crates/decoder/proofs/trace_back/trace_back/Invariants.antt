use Rattle.decoder.proofs.Passes.{Written}
use Rattle.decoder.proofs.trace_back.trace_back.Given as goal

-- `decoder::trace_back::trace_back` meets its contract: the entries from t up are written, by the decisions.
abbrev pub invariant-loop-t : goal.invariant-loop-t
invariant-loop-t l = Written l.stages l.last l.decisions l.initial.path l.path l.t l.s

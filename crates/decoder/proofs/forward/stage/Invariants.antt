use Prim.Native.Nat.{◌+◌, ◌*◌, ◌^◌}
use Rattle.decoder.specs.Trellis.{branch, new_metric}
use Rattle.decoder.specs.Survivors.{at, from_upper}
use Rattle.decoder.proofs.Stages.{Done}
use Rattle.decoder.proofs.forward.stage.Given as goal

-- `decoder::forward::stage` meets its contract: at each turn the states from s up are done.
abbrev pub invariant-loop-s : goal.invariant-loop-s
invariant-loop-s l =
    Done (2 ^ 15 * (l.t + 1)) (new_metric (at l.old) (branch l.g l.t)) (from_upper (at l.old) (branch l.g l.t)) l.s l.new l.decisions

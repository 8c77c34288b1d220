use mathlib.Core.Path.{◌∙◌}
use Rattle.replay.proofs.Differences.{same_error}
use Rattle.replay.proofs.Records.{laid, handed_on, broken_told, memory_lent, calls_ready, calls_told}
use Rattle.replay.proofs.case.replay_record.Goals as goal

pub returns-in_err-p : goal.returns-in_err-p
returns-in_err-p c =
    same_error _ _ c.from_residual.ensures.1
    ∙ handed_on _ _ c.map_err.ensures.cases c.in_err-p.was (λ f q. broken_told _ _ _ c.requires.0 c.load_words.ensures c.layout_of.ensures q)

pub slice_bounds-compare_calls-end : goal.slice_bounds-compare_calls-end
slice_bounds-compare_calls-end c =
    memory_lent c.args.bytes.now c.args.room.now c.load_words.new.words c.requires.0 c.load_words.ensures c.layout_of.ensures
    (laid _ _ c.map_err.ensures.cases c.in_ok-p.was) c.args.memory.now c.requires.1

pub compare_calls-requires : goal.compare_calls-requires
compare_calls-requires c =
    calls_ready c.args.bytes.now c.args.room.now c.load_words.new.words c.requires.0 c.load_words.ensures c.layout_of.ensures
    (laid _ _ c.map_err.ensures.cases c.in_ok-p.was) c.args.memory.now c.requires.1

pub returns : goal.returns
returns c =
    calls_told _ _ _ c.requires.0 c.load_words.ensures c.layout_of.ensures (laid _ _ c.map_err.ensures.cases c.in_ok-p.was)
    c.compare_calls.ensures

use Rattle.std.proofs.Common.{sym, arith}
use lib.Seq.{length-take-le}
use Rattle.image.proofs.LittleEndian.{accepted}
use Rattle.linerun.proofs.Loaded.{words_ran, bytes_refused}
use Rattle.linerun.proofs.bytes_run.run_bytes.Goals as goal

pub returns-in-Err : goal.returns-in-Err
returns-in-Err c = rw c.code.ensures (bytes_refused _ _ c.in-Err.ensures c.zero_state.ensures)

pub slice_bounds-words-end : goal.slice_bounds-words-end
slice_bounds-words-end c = let h = accepted _ (sym c.in_default.ensures) in omega arith

pub slice_bounds-run-end : goal.slice_bounds-run-end
slice_bounds-run-end c =
    let h = accepted _ (sym c.in_default.ensures) in sym (length-take-le _ c.load_words.new.words (omega arith))

pub returns : goal.returns
returns c =
    words_ran _ c.in_default.ensures _ c.load_words.new.words _ c.run.result (omega arith) c.load_words.ensures
    c.zero_state-2.ensures c.run.ensures

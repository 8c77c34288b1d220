use Rattle.runs.specs.Plain.{plain_run}
use Rattle.debugger.proofs.FlatLaws.{bad_buffer_lem, report_fits, flat_ran}
use Rattle.debugger.proofs.ts201_run.Goals as goal

pub returns-then-not-fit : goal.returns-then-not-fit
returns-then-not-fit c =
    let s = c.args in bad_buffer_lem (plain_run
    s.image.now) s.state.now s.memory.now s.report.now c.fit.ensures c.if-not-fit.true

pub write_report-requires : goal.write_report-requires
write_report-requires c =
    let s = c.args in report_fits (plain_run
    s.image.now) s.state.now s.memory.now s.report.now c.fit.ensures c.if-not-fit.false

pub returns : goal.returns
returns c =
    let s = c.args in flat_ran (plain_run
    s.image.now) s.state.now s.memory.now s.report.now c.fit.ensures c.if-not-fit.false _
    c.run_files-result.new.files c.run_files-result.new.memory c.read_words.ensures c.run_files-result.ensures
    c.write_words.ensures c.write_report.ensures

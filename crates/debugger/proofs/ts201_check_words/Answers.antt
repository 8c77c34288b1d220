use Rattle.debugger.proofs.FlatLaws.{bad_answer, flat_checked}
use Rattle.debugger.proofs.ts201_check_words.Goals as goal

pub returns-then-report-ne-ANSWER_WORDS : goal.returns-then-report-ne-ANSWER_WORDS
returns-then-report-ne-ANSWER_WORDS c =
    let s = c.args in
    bad_answer s.image.now s.report.now c.if-report-ne-ANSWER_WORDS.true

pub returns : goal.returns
returns c =
    let s = c.args in
    flat_checked s.image.now s.report.now c.check-answer.result c.write_answer.new.words c.if-report-ne-ANSWER_WORDS.false
    c.check-answer.ensures c.write_answer.ensures

use Rattle.replay.proofs.Judged.{too_long, not_compared, compared}
use Rattle.replay.proofs.cases.judge.Goals as goal

pub returns-then-length-gt-RECORD_WORDS : goal.returns-then-length-gt-RECORD_WORDS
returns-then-length-gt-RECORD_WORDS c = too_long _ _ _ _ c.index-length.ensures.0 c.if-length-gt-RECORD_WORDS.true

pub returns-in-Err : goal.returns-in-Err
returns-in-Err c = not_compared _ _ _ _ c.index-length.ensures.0 c.if-length-gt-RECORD_WORDS.false c.in-Err.is

pub returns-in-Ok : goal.returns-in-Ok
returns-in-Ok c = compared _ _ _ _ c.index-length.ensures.0 c.if-length-gt-RECORD_WORDS.false c.in-Ok.is c.replay_record.ensures

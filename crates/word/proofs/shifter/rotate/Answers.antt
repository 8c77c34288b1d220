use Rattle.std.proofs.Common.{◌%◌, ◌∙◌, arith}
use Rattle.word.proofs.Shifts.{rotated}
use Rattle.word.proofs.shifter.rotate.Goals as goal

pub returns : goal.returns
returns c = c.rotate_left.ensures ∙ rotated c.args.a (c.args.s % 32) (omega arith) (omega arith)

use Rattle.std.proofs.Common.{arith}
use Rattle.std.proofs.lemmas.Grind.{common_steps}
use Rattle.slots.specs.Slots.{read_fields}
use Rattle.slots.proofs.ReadCodes.{told_code}
use Rattle.slots.proofs.slot.read_fields.Goals as goal

pub returns : goal.returns
unfolding read_fields
returns c = told_code c.args.words.now (grind (arith, common_steps))

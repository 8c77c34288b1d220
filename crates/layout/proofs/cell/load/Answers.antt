use Rattle.std.proofs.Common.{◌≡◌, ◌∙◌, arith, get_or}
use Rattle.std.proofs.lemmas.Grind.{common_steps}
use Rattle.std.proofs.lemmas.Bool.Decides.{nat_tests}
use Rattle.layout.proofs.Laid.{memory_read}
use Rattle.layout.proofs.cell.load.Goals as goal

pub returns : goal.returns
returns c = λ ws.
    let e : c.unwrap_or.result ≡ get_or c.args.memory.now c.args.i 0 = grind (arith, common_steps, nat_tests) in
    e ∙ memory_read ws c.args.memory.now c.args.i

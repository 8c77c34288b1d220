use Rattle.machine.specs.Fetches.{values}
use Rattle.machine.proofs.Fetches.{values_asks}
use Rattle.instructions.proofs.Fetched.{register_get}
use Rattle.instructions.specs.Fetching.{fetch_buffer}
use Rattle.instructions.proofs.ialu_fetch.fetch_buffer.Goals as goal

pub returns : goal.returns
unfolding fetch_buffer values
returns c = λ mem. rw c.hold.ensures (simp (values_asks, register_get) (rw (c.register-x.ensures mem)))

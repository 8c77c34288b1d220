use Rattle.replay.proofs.Calls.{started}
use Rattle.replay.proofs.case.start.Goals as goal

pub returns : goal.returns
returns c = started _ _ c.requires.0 c.copy_from_slice.new.self c.copy_from_slice.ensures.after c.state_of.ensures

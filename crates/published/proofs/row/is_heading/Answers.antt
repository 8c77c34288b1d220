use Rattle.std.proofs.Common.{refl}
use Rattle.published.proofs.row.is_heading.Goals as goal

pub returns : goal.returns
returns c = rw (c.is_empty.ensures, c.byte_at.ensures) refl

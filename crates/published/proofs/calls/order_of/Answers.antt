use Rattle.std.proofs.Common.{refl}
use Rattle.published.specs.Calls.{order_of}
use Rattle.published.proofs.calls.order_of.Goals as goal

pub returns : goal.returns
unfolding order_of
returns c =
    rw (
      c.step_at.ensures,
      c.step_at-2.ensures,
      c.step_at-3.ensures,
      c.step_at-4.ensures,
      c.step_at-5.ensures,
      c.step_at-6.ensures,
      c.step_at-7.ensures,
      c.step_at-8.ensures,
    )
    refl

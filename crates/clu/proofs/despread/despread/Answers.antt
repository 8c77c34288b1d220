use mathlib.Core.Path.{◌≡◌}
use native.Mathlib.Omega.{arith}
use mir.Syntax.{w32}
use mir.Val.{to_z}
use Rattle.clu.specs.Despread.{real, imaginary, despread}
use Rattle.clu.proofs.Terms.{none, more}
use Rattle.clu.proofs.Lanes.{wrap_low}
use Rattle.clu.proofs.despread.despread.Goals as goal

pub loop-i-init : goal.loop-i-init
loop-i-init c = (none (real c.args.quad c.args.t) c.args.k, none (imaginary c.args.quad c.args.t) c.args.k)

pub loop-i-preserved : goal.loop-i-preserved
loop-i-preserved c =
    let s = c.args in
    let l = c.loop-i in (
      more (real s.quad s.t) s.k l.i (to_z w32 l.re-bits) c.real-re.result (omega arith) l.invariant.0 c.real-re.ensures.0
          c.real-re.ensures.1,
      more (imaginary s.quad s.t) s.k l.i (to_z w32 l.im-bits) c.imaginary-im.result (omega arith) l.invariant.1
          c.imaginary-im.ensures.0 c.imaginary-im.ensures.1,
    )

pub returns : goal.returns
unfolding despread
returns c =
    let l = c.loop-i in
    let e : l.i ≡ c.args.n = omega arith in
    rw (
      c.word.ensures,
      c.word-2.ensures,
      wrap_low (to_z w32 l.re-bits),
      wrap_low (to_z w32 l.im-bits),
      l.invariant.0.value,
      l.invariant.1.value,
      e,
    )

use mathlib.Core.Path.{sym, ◌∙◌}
use mathlib.Core.List.{[]}
use Rattle.layout.specs.Layout.{machine_of}
use Rattle.instructions.proofs.Fetched.{length_get}
use Rattle.instructions.proofs.BufferRead.{no_base, base_there, end_there}
use Rattle.instructions.proofs.ialu_fetch.buffer.Goals as goal

pub returns-then-length-eq0 : goal.returns-then-length-eq0
returns-then-length-eq0 c =
    let a = c.args in
    λ mem.
    let l = rw c.in_four-i.ensures.0 at (c.read_if-length.ensures mem) ∙ length_get _ _ _ _ in
    let none = sym l ∙ c.if-length-eq0.true in
    (no_base a.used a.ialu a.first (machine_of a.files.now mem) none, sym none)

pub invariant_of-result-2 : goal.invariant_of-result-2
invariant_of-result-2 c =
    let a = c.args in
    let l = rw c.in_four-i.ensures.0 at (c.read_if-length.ensures []) ∙ length_get _ _ _ _ in
    record {
      end_is = rw (c.read.ensures [], c.in_four-i.ensures.0, l)
          (end_there a.used a.ialu a.first a.files.now [] c.end_of.result c.requires (λ e. c.if-length-eq0.false (l ∙ e))
          (rw c.in_four-i.ensures.0 at c.end_of.ensures));
    }

pub returns : goal.returns
returns c =
    let a = c.args in
    λ mem.
    let l = rw c.in_four-i.ensures.0 at (c.read_if-length.ensures mem) ∙ length_get _ _ _ _ in
    (rw c.in_four-i.ensures.0 at (c.read.ensures mem) ∙ base_there a.used a.ialu a.first (machine_of a.files.now mem) (λ e. c.if-length-eq0.false (l ∙ e)), l)

use mathlib.Core.Path.{◌≡◌, ◌∙◌}
use native.Mathlib.Omega.{arith}
use Rattle.line.proofs.LineVerdicts.{counts_fit, turn_refused, turn_next, turn_last}
use Rattle.line.proofs.check.check_whole.Goals as goal

pub returns-in_default : goal.returns-in_default
returns-in_default c =
    let s = c.in-Some.ensures.steps in
    let slot : c.from.result ≡ c.loop-words.seen.slots = omega arith in
    rw slot
    (turn_refused _ c.requires _ _ c.loop-words.invariant.turn _ _ s.1.0 (s.1.1 ∙ c.loop-words.invariant.size)
    c.read_fields.ensures.0 c.in_default.is)

pub see-seen-requires-clause-counts_bound : goal.see-seen-requires-clause-counts_bound
see-seen-requires-clause-counts_bound c =
    let s = c.in-Some.ensures.steps in
    rw c.usage_of.ensures
    (counts_fit _ c.requires _ _ c.loop-words.invariant.turn _ _ s.1.0 (s.1.1 ∙ c.loop-words.invariant.size) _)

pub loop-words-preserved : goal.loop-words-preserved
loop-words-preserved c =
    let s = c.in-Some.ensures.steps in
    record {
      size = s.0 ∙ c.loop-words.invariant.size;
      turn =
          rw (c.see-seen.ensures, c.usage_of.ensures)
          (turn_next _ c.requires _ _ c.loop-words.invariant.turn _ _ s.1.0 (s.1.1 ∙ c.loop-words.invariant.size)
          c.read_fields.ensures.0 c.in-Ok.is c.modifier_fits.ensures);
    }

pub returns : goal.returns
returns c =
    let s = c.in-None.ensures.steps in
    c.chosen.ensures
    ∙ turn_last _ c.requires _ _ c.loop-words.invariant.turn (omega (arith, s.1.0, c.loop-words.invariant.size))

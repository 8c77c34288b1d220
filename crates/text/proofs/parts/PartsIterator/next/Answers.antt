use Rattle.std.proofs.Common.{◌≡◌, ◌∷◌, length, ap, arith, rules, tests}
use Rattle.text.specs.Parts.{before, split}
use Rattle.text.proofs.Splits.{split_first, split_none}
use Rattle.text.proofs.parts.PartsIterator.next.Goals as goal

pub returns-then-is_empty-clause-steps : goal.returns-then-is_empty-clause-steps
returns-then-is_empty-clause-steps c =
    let s = c.args.self.now in
    let e = split_none s.by s.text.now (search (rules, tests)) in
    (e, e)

pub returns-clause-steps : goal.returns-clause-steps
returns-clause-steps c =
    let s = c.args.self.now in
    rw (c.before-2.ensures, c.after-self.ensures) (split_first s.by s.text.now (search (rules, tests)))

pub returns-clause-goes : goal.returns-clause-goes
returns-clause-goes c =
    let s = c.args.self.now in
    let e : split s.by s.text.now ≡ before s.by s.text.now ∷ split s.by c.after-self.result.now = rw c.after-self.ensures (split_first s.by s.text.now (search (rules, tests))) in
    omega (arith, ap length e)

-- What any run answers before its lines, and where it goes on with them.
use mathlib.Core.Path.{◌≡◌, refl, sym, ap, ◌∙◌}
use mathlib.Core.List.{List}
use mathlib.Core.Bool.{Bool, true, false}
use Prim.Native.Nat.{ℕ}
use native.Mathlib.Omega.{arith}
use lib.ListN.{length}
use lib.Dec.{ltb, eqb}
use borrow.Author.Tests.{eqb-true, eq-eqb}
use Rattle.std.specs.Prelude.{Result, Ok, Err}
use Rattle.bits.specs.Pick.{pick}
use Rattle.image.specs.Directory.{max_words}
use Rattle.image.specs.Check.{check_of}
use Rattle.machine.specs.Machine.{Machine, machine}
use Rattle.machine.specs.declared.state.State.{State}
use Rattle.layout.specs.Layout.{state_of, machine_of}
use Rattle.states.proofs.States.{gathered_state}
use Rattle.runs.specs.Plain.{End, ended, report, before_lines, accepted, if_accepted}
use Rattle.runs.specs.declared.report.Report.{Report}

-- what an accepted report and a refused one are
ok_code : (k : Report) {x : Unit {0}} → accepted k ≡ Ok x → k.code ≡ 0
ok_code k {x} = go (eqb k.code 0) refl
  where
    go : (t : Bool) → eqb k.code 0 ≡ t → pick {A = Result (Unit {0}) Report} t (Ok tt) (Err k) ≡ Ok x → k.code ≡ 0
    go true p q = eqb-true k.code 0 p
    go false p q = absurd cc

err_report : (k : Report) {r : Report} → accepted k ≡ Err r → (r ≡ k) × (eqb k.code 0 ≡ false)
err_report k {r} = go (eqb k.code 0) refl
  where
    go : (t : Bool) → eqb k.code 0 ≡ t → pick {A = Result (Unit {0}) Report} t (Ok tt) (Err k) ≡ Err r → (r ≡ k) × (eqb k.code 0 ≡ false)
    go true p q = absurd cc
    go false p q = (cc, p)

module _ (w : List ℕ) (m : Machine) {b : Result (Unit {0}) Report} (e : b ≡ accepted (before_lines w (length m.memory))) where
  pub refused_before : (lines : End) {r : Report} → b ≡ Err r → ended r m ≡ if_accepted w m lines
  refused_before lines z = let k = err_report _ (sym e ∙ z) in rw k.1 (ap (λ (r : Report). ended r m) k.0)

  module _ {x : Unit {0}} (z : b ≡ Ok x) where
    before_code : (before_lines w (length m.memory)).code ≡ 0
    before_code = ok_code _ (sym e ∙ z)

    pub goes_on : (lines : End) → lines ≡ if_accepted w m lines
    goes_on lines = rw (eq-eqb (before_lines w (length m.memory)).code 0 before_code)

    pub check_passed : (check_of w).code ≡ 0
    check_passed = by_length (ltb max_words (length m.memory)) before_code
      where
        by_length : (long : Bool)
            → (pick long (report 1 0 0 0 0) (report (check_of w).code (check_of w).line (check_of w).slot 0 0)).code ≡ 0
            → (check_of w).code ≡ 0
        by_length true q = absurd (let q' : ◌≡◌ {A = ℕ} 1 0 = q in omega arith)
        by_length false q = q

-- a run of a state: it is laid out in words, the image runs on them, and the state is gathered
pub laid_run : (run : Machine → End) (state : State) {r : Report} {s : State} (ws mem ws' mem' : List ℕ)
    → machine_of ws mem ≡ machine state mem → ended r (machine_of ws' mem') ≡ run (machine_of ws mem) → s ≡ state_of ws'
    → ended r (machine s mem') ≡ run (machine state mem)
laid_run run state {r} ws mem ws' mem' laid f g = ap (ended r) (gathered_state ws' mem' g) ∙ f ∙ ap run laid

use Rattle.std.proofs.Common.{◌≡◌, ℕ, List, [], ◌∷◌, ◌++◌, length, get_or, refl, ap, ◌∙◌, arith}
use Rattle.machine.specs.Machine.{zeros}
use Rattle.debugger.specs.FlatRuns.{Checked}
use Rattle.published.specs.Board.{board}
use Rattle.published.specs.Calls.{checked}
use Rattle.published.proofs.calls.checked.Goals as goal

three : (ws rest : List ℕ) → length ws ≡ 3 → get_or ws 0 0 ∷ get_or ws 1 0 ∷ get_or ws 2 0 ∷ rest ≡ ws ++ rest
three (a ∷ b ∷ c ∷ []) rest l = refl
three [] rest l = absurd (omega arith)
three (a ∷ []) rest l = absurd (omega arith)
three (a ∷ b ∷ []) rest l = absurd (omega arith)
three (a ∷ b ∷ c ∷ d ∷ ws) rest l = absurd (omega arith)

pub returns : goal.returns
unfolding checked
returns c =
    let r = c.ts201_check_words in
    let b = c.args.board in
    ap (λ (ws : List ℕ). board b.files b.memory ws b.answer b.good) (three r.new.report (zeros 3)
    r.auto.report ∙ ap (λ (k : Checked). k.report ++ zeros 3) r.ensures)

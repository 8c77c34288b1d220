-- An outcome's numbers, compared part by part, are compared whole.
use mathlib.Core.Path.{◌≡◌, refl, ◌∙◌}
use mathlib.Core.List.{List, [], ◌∷◌}
use Prim.Native.Nat.{ℕ, ◌+◌, ◌-◌, ◌≤◌}
use native.Mathlib.Omega.{arith}
use lib.ListN.{length, get_or, take, drop, length-drop, drop_of_length-le}
use lib.Seq.{drop-cons, drop-drop, take_all}
use borrow.Author.Tests.{eq-eqb, ne_eqb}
use Rattle.machine.specs.Machine.{machine}
use Rattle.machine.specs.declared.state.State.{State}
use Rattle.runs.specs.Plain.{ended}
use Rattle.runs.specs.declared.report.Report.{Report}
use Rattle.replay.specs.Compare.{differ, difference_from}
use Rattle.layout.specs.Layout.{state_words, words_of_state}
use Rattle.replay.specs.Outcome.{report_numbers, run_numbers, end_numbers}
use Rattle.replay.specs.declared.compare.Difference.{Difference}
use Rattle.std.specs.declared.result.Result.{Result}
use Rattle.std.specs.declared.result.Result.TheVariants.{Ok, Err}
use Rattle.replay.proofs.Differences.{front_differs, front_same}

module _ (es : List ℕ) (five : length es ≡ 5) (r : Report) {x : Result Unit Difference}
    (e : x ≡ difference_from 0 (take 4 es) (r.code ∷ r.line ∷ r.slot ∷ r.lines ∷ [])) where
  pub report_differs : {d : Difference} → x ≡ Err d → x ≡ difference_from 0 es (report_numbers r)
  report_differs q = front_differs 0 4 es (r.code ∷ r.line ∷ r.slot ∷ r.lines ∷ []) (r.steps ∷ []) (omega arith) refl e q

  steps_left : x ≡ Ok tt → difference_from 4 (get_or es 4 0 ∷ []) (r.steps ∷ []) ≡ difference_from 0 es (report_numbers r)
  steps_left q =
      let f : difference_from 4 (drop 4 es) (r.steps ∷ []) ≡ difference_from 0 es (report_numbers r) =
      front_same 0 4 es (r.code ∷ r.line ∷ r.slot ∷ r.lines ∷ []) (r.steps ∷ []) (omega arith) refl e q in
      let n : drop 5 es ≡ [] = drop_of_length-le es {i = 5} (omega arith) in
      rw (drop-cons es 4 0 (omega arith), n) at f

  pub report_same : x ≡ Ok tt → get_or es 4 0 ≡ r.steps → Ok tt ≡ difference_from 0 es (report_numbers r)
  unfolding difference_from
  report_same q s = rw (eq-eqb (get_or es 4 0) r.steps s) at (steps_left q)

  pub steps_differ : x ≡ Ok tt → (get_or es 4 0 ≡ r.steps → ⊥)
      → differ 4 (get_or es 4 0) r.steps ≡ difference_from 0 es (report_numbers r)
  unfolding difference_from
  steps_differ q s = rw (ne_eqb (get_or es 4 0) r.steps s) at (steps_left q)

module _ (es : List ℕ) (r : Report) (s : State) (mem : List ℕ) (room : length es ≡ run_numbers + length mem) {x : Result Unit Difference}
    (e : x ≡ difference_from 0 (take 5 es) (report_numbers r)) where
  pub end_reported : {d : Difference} → x ≡ Err d → x ≡ difference_from 0 es (end_numbers (ended r (machine s mem)))
  end_reported q = front_differs 0 5 es (report_numbers r) _ (omega arith) refl e q

  module _ (q : x ≡ Ok tt) {f : List ℕ} (fe : f ≡ words_of_state s) (fl : length f ≡ state_words) {y : Result Unit Difference}
      (g : y ≡ difference_from 5 (take state_words (drop 5 es)) f) where
    pub end_state : {d : Difference} → y ≡ Err d → y ≡ difference_from 0 es (end_numbers (ended r (machine s mem)))
    end_state t =
        let l : length (words_of_state s) ≡ state_words = rw fe at fl in
        let h : state_words ≤ length (drop 5 es) = simp length-drop (omega arith) in
        front_differs 5 state_words (drop 5 es) (words_of_state s) mem h l (rw fe at g) t
        ∙ front_same 0 5 es (report_numbers r) _ (omega arith) refl e q

    pub end_memory : {z : Result Unit Difference} → y ≡ Ok tt → z ≡ difference_from run_numbers (take (length es - run_numbers) (drop run_numbers es)) mem
        → z ≡ difference_from 0 es (end_numbers (ended r (machine s mem)))
    end_memory t k =
        let l : length (words_of_state s) ≡ state_words = rw fe at fl in
        let h : state_words ≤ length (drop 5 es) = simp length-drop (omega arith) in
        let a : take (length es - run_numbers) (drop run_numbers es) ≡ drop run_numbers es = take_all (length es - run_numbers) (drop run_numbers es) (simp length-drop (omega arith)) in
        let m =
        front_same 5 state_words (drop 5 es) (words_of_state s) mem h l (rw fe at g) t in
        k ∙ rw a (rw (drop-drop state_words 5 es) at m)
        ∙ front_same 0 5 es (report_numbers r) _ (omega arith) refl e q

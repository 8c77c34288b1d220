-- A case's verdict, by the length of its record and how its reading ended; i is the length as an index.
use mathlib.Core.Path.{◌≡◌, refl, ap, ◌∙◌}
use mathlib.Core.List.{List}
use Prim.Native.Nat.{ℕ, ◌-◌, ◌*◌, ◌≤◌, ◌<◌}
use native.Mathlib.Omega.{arith}
use lib.ListN.{take, drop}
use Rattle.slots.proofs.Picks.{lt_taken, lt_left}
use Rattle.replay.specs.Case.{record_words, verdict_of}
use Rattle.replay.specs.Cases.{judged}
use Rattle.std.specs.declared.result.Result.{Result}
use Rattle.std.specs.declared.result.Result.TheVariants.{Ok, Err}
use Rattle.replay.specs.declared.case.Failure.{Failure}
use Rattle.replay.specs.declared.case.Failure.TheVariants.{Broken}
use Rattle.replay.specs.declared.file.Cut.{Cut}
use Rattle.replay.specs.declared.record.Fault.TheVariants.{Long}
use Rattle.replay.proofs.Calls.{lent_part}

module _ (n i : ℕ) (e : Result Unit Cut) (bs : List ℕ) (same : i ≡ n) where
  pub too_long : record_words < i → Err (Broken (Long i)) ≡ judged n e bs
  unfolding judged
  too_long h = lt_taken record_words n _ _ (omega arith) (ap (λ (k : ℕ). Err (Broken (Long k))) same)

  module _ (h : i ≤ record_words) where
    pub not_compared : {c : Cut} → e ≡ Err c → Ok tt ≡ judged n e bs
    unfolding judged
    not_compared q = lt_left record_words n _ _ (omega arith) (rw q refl)

    pub compared : {v : Result Unit Failure} → e ≡ Ok tt → v ≡ verdict_of (take (4 * i - 0) (drop 0 bs)) → v ≡ judged n e bs
    unfolding judged
    compared w q =
        lt_left record_words n _ _ (omega arith) (rw w (q ∙ ap verdict_of (lent_part 0 (4 * n) (4 * i) bs (omega arith))))

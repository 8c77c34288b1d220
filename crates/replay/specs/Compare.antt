-- Two lists of numbers, and the first place where they differ.
use Rattle.std.specs.Prelude.{ℕ, suc, List, [], ◌∷◌, eqb}
use Rattle.std.specs.declared.result.Result.{Result}
use Rattle.std.specs.declared.result.Result.TheVariants.{Ok, Err}
use Rattle.bits.specs.Pick.{pick}
use Rattle.replay.specs.declared.compare.Difference.{Difference}

abbrev pub differ : ℕ → ℕ → ℕ → Result Unit Difference
differ at expected found = Err record { at = at; expected = expected; found = found }

-- expected and found numbers, whose places are counted from `at` on; a number that only one list has differs from 0
unfoldable pub difference_from : ℕ → List ℕ → List ℕ → Result Unit Difference
difference_from at [] [] = Ok tt
difference_from at [] (f ∷ fs) = differ at 0 f
difference_from at (e ∷ es) [] = differ at e 0
difference_from at (e ∷ es) (f ∷ fs) = pick (eqb e f) (difference_from (suc at) es fs) (differ at e f)

-- 01's condition call: 0-5 on J, 6-11 on K.
use Rattle.std.specs.Prelude.{◌≡◌, ℕ, ◌+◌, ◌/◌, ◌%◌, List, Bool, true, false, Option, Some, None, not, ◌&&◌, ◌||◌, get_or, ltb, eqb}
use Rattle.bits.specs.Pick.{pick}
use Rattle.bits.specs.Flags.{flag}

-- EQ Z=1, LT N=1, LE either, NEQ Z=0, NLT N=0 (Note 1 of document 02), NLE neither
unfoldable pub met : ℕ → Bool → Bool → Bool
met c z n =
    eqb c 0 && z || eqb c 1 && n || eqb c 2 && (z || n) || eqb c 3 && not z || eqb c 4 && not n || eqb c 5 && not (z || n)

-- the flag group of an IALU (0 J, 1 K): Z is its lowest flag, N the next
abbrev pub ialu_flags : ℕ → List ℕ → ℕ
ialu_flags ialu flags = get_or flags (6 + ialu) 0

-- a condition, from the flag group of its IALU
unfoldable pub holds_in : ℕ → ℕ → Bool
holds_in number group = met (number % 6) (flag 0 group) (flag 1 group)

-- condition 0-5 on J, 6-11 on K
unfoldable pub holds : ℕ → List ℕ → Bool
holds number flags = holds_in number (ialu_flags (number / 6) flags)

-- yes or no; none for a number above 11, which is refused
unfoldable pub condition_of : ℕ → List ℕ → Option Bool
condition_of number flags = pick (ltb 11 number) None (Some (holds number flags))

-- ---- 01's code for each answer, and the answer's value: 1 for yes, 0 for no; a refusal's value is named no

abbrev pub condition_code : Option Bool → ℕ
condition_code (Some answer) = 0
condition_code None = 12

abbrev pub condition_value : Option Bool → ℕ
condition_value (Some true) = 1
condition_value (Some false) = 0
condition_value None = 0

-- the answer to a number, with 01's code and value for it
abbrev pub Answers : ℕ → List ℕ → Option Bool → Type 0
Answers number flags r =
    (r ≡ condition_of number flags) × (condition_code r ≡ pick (ltb 11 number) 12 0)
    × (condition_value r ≡ pick (ltb 11 number) 0 (pick (holds number flags) 1 0))

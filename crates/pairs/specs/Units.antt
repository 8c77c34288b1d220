-- Serves the code only; a reader of the notes can skip it.
-- Rule 5 over the pairs of a line's units. proofs/ComparedPairs.antt shows that they are those of its slots.
use Rattle.std.specs.Prelude.{ℕ, zero, suc, ◌*◌, ◌/◌, List, [], ◌∷◌, ◌++◌, Bool, length, get_or, eqb, Option, Some, None}
use Rattle.bits.specs.Pick.{pick}
use Rattle.slots.specs.Lists.{some}
use Rattle.slots.specs.Conditionals.{slot_words}
use Rattle.pairs.specs.Pairs.{up_to_first, slot_pairs}
use Rattle.pairs.specs.declared.Compared.{Compared}

-- the units of n slots of a line's words, from slot s on
abbrev pub units_from : List ℕ → ℕ → ℕ → List ℕ
units_from w s zero = []
units_from w s (suc n) = get_or w (slot_words * s) 0 ∷ units_from w (suc s) n

abbrev pub units_in : List ℕ → List ℕ
units_in w = units_from w 0 (length w / slot_words)

-- the first slot, from number s on, whose unit is that of one before it, if any
abbrev pub later_from : ℕ → List ℕ → List ℕ → Option ℕ
later_from s before [] = None
later_from s before (u ∷ us) = pick (some (λ e. eqb e u) before) (Some s) (later_from (suc s) (before ++ (u ∷ [])) us)

abbrev pub same_unit : ℕ × ℕ → Bool
same_unit pair = eqb pair.0 pair.1

unfoldable pub compared_units : List ℕ → Compared
compared_units us = record { pairs = length (up_to_first same_unit (slot_pairs us)); later = later_from 0 [] us }

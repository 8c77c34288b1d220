-- 01, 'The image': a line as its words, one to four slots of seven (document 02, Note 5).
use Rattle.std.specs.Prelude.{ℕ, zero, suc, ◌*◌, ◌/◌, List, [], ◌∷◌, Bool, ◌||◌, length, take, drop, eqb, Result}
use Rattle.bits.specs.Pick.{pick}
use Rattle.slots.specs.Conditionals.{slot_words, read_slot}
use Rattle.line.specs.Rules.{verdict, reads_verdict}
use Rattle.slots.specs.declared.conditional_slot.Conditional.{Conditional}
use Rattle.slots.specs.declared.slot.SlotRefusal.{SlotRefusal}
use Rattle.line.specs.Verdicts.{Verdict}

-- the length of one to four slots: 7, 14, 21 or 28
abbrev pub sized : ℕ → Bool
sized l = eqb l slot_words || eqb l (2 * slot_words) || eqb l (3 * slot_words) || eqb l (4 * slot_words)

-- n slots of a line's words, each as it is read
unfoldable pub reads : ℕ → List ℕ → List (Result Conditional SlotRefusal)
reads zero w = []
reads (suc n) w = read_slot (take slot_words w) ∷ reads n (drop slot_words w)

abbrev pub read_line : List ℕ → List (Result Conditional SlotRefusal)
read_line w = reads (length w / slot_words) w

-- the verdict on any words: a length that is not of one to four slots is the directory's refusal
unfoldable pub line_verdict : List ℕ → Verdict
line_verdict w = pick (sized (length w)) (reads_verdict (read_line w)) (verdict 2 0)

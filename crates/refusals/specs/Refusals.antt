-- 01, 'Whose doing a refusal is': the running state's refusals 9, 8 and 10 of a line, and 17 of document 02, Note 6, from what its slots
-- hold after their fetch on the machine before the line. A slot that is not live causes none (document 02, Note 5).
use Rattle.std.specs.Prelude.{ℕ, ◌+◌, ◌%◌, List, [], ◌∷◌, Bool, false, not, ◌&&◌, ◌||◌, ltb, leb, eqb, unsigned_abs}
use Rattle.bits.specs.Signed.{signed}
use Rattle.word.specs.Ialu.{address}
use Rattle.word.specs.Addresses.{quad_at}
use Rattle.slots.specs.Lists.{some, twice}
use Rattle.slots.specs.Places.{Place, meet}
use Rattle.slots.specs.Stores.{slot_in}
use Rattle.slots.specs.Families.{on_modifier, on_access, on_dab_load}
use Rattle.slots.specs.declared.slot.Slot.{Slot}
use Rattle.slots.specs.declared.conditional_slot.Conditional.{Conditional}
use Rattle.line.specs.Rules.{verdict, refuse}
use Rattle.line.specs.Verdicts.{Verdict}
use Rattle.machine.specs.Machine.{Machine}
use Rattle.machine.specs.Fetches.{values, when}
use Rattle.instructions.specs.Held.{index, modifier, base, len}
use Rattle.conditional.specs.LineSlots.{live, fetch_in}
use Rattle.conditional.specs.declared.line_slot.Fetched.{Fetched}
use Rattle.instructions.specs.Storing.{words_stored}

-- ---- the slots of a line, each with what it holds

abbrev pub fetch_slot : List Conditional → Machine → Conditional → Fetched
fetch_slot line m x = record { slot = slot_in line x; held = values (fetch_in (slot_in line x)) m }

-- some slots of a line, each fetched on m
abbrev pub fetch_each : List Conditional → Machine → List Conditional → List Fetched
fetch_each line m [] = []
fetch_each line m (x ∷ xs) = fetch_slot line m x ∷ fetch_each line m xs

abbrev pub fetch_line : List Conditional → Machine → List Fetched
fetch_line line m = fetch_each line m line

-- ---- what a slot breaks, in a memory of size words

-- a multiple of the width, which is 1, 2 or 4
abbrev pub multiple : ℕ → ℕ → Bool
multiple w x = eqb w 1 || eqb w 2 && eqb (x % 2) 0 || eqb w 4 && eqb (x % 4) 0

-- 9: L > 0 and index outside base..base+L−1, modifier size above L, base+L above the memory length, or base or L no multiple
-- of the width
abbrev pub outside : ℕ → ℕ → ℕ → ℕ → ℕ → ℕ → Bool
outside size w index modifier base len =
    ltb 0 len
    && (ltb index base || leb (base + len) index || ltb len (unsigned_abs (signed 32 modifier)) || ltb size (base + len)
    || not (multiple w base) || not (multiple w len))

-- 8: access not aligned to its width or past memory
abbrev pub misplaced : ℕ → ℕ → ℕ → Bool
misplaced size w addr = not (multiple w addr) || ltb size (addr + w)

-- a slot that is not circular has asked for no length, and holds 0
abbrev pub breaks9 : ℕ → Slot → List ℕ → Bool
breaks9 size x v = on_modifier false (λ w s i. outside size w (index v) (modifier v) (base v) (len v)) x

-- 17: a load through a data alignment buffer with index mod 4 = 0
abbrev pub breaks17 : Slot → List ℕ → Bool
breaks17 x v = on_dab_load false (λ ialu b t f i. eqb (index v % 4) 0) x

-- of a load through a data alignment buffer the test is on the quad
abbrev pub breaks8 : ℕ → Slot → List ℕ → Bool
breaks8 size x v =
    on_access (on_dab_load false (λ ialu b t f i. misplaced size 4 (quad_at (index v))) x)
    (λ ialu op w file n f s i. misplaced size w (address op (index v) (modifier v))) x

-- ---- the rules over some slots, of which only those that are live count

abbrev pub rule9 : ℕ → List Fetched → Bool
rule9 size xs = some (λ x. live x.held && breaks9 size x.slot.slot x.held) xs

abbrev pub rule17 : List Fetched → Bool
rule17 xs = some (λ x. live x.held && breaks17 x.slot.slot x.held) xs

abbrev pub rule8 : ℕ → List Fetched → Bool
rule8 size xs = some (λ x. live x.held && breaks8 size x.slot.slot x.held) xs

-- 10: a word stored by two slots
abbrev pub live_stored : Fetched → List Place
live_stored x = when (live x.held) (words_stored x.slot.slot x.held)

abbrev pub rule10 : List Fetched → Bool
rule10 xs = twice (λ x y. meet (live_stored x) (live_stored y)) xs

-- 9, 17, 8 and 10, each over the whole line
unfoldable pub run_verdict : ℕ → List Fetched → Verdict
run_verdict size xs =
    refuse 9 (rule9 size) xs (refuse 17 rule17 xs (refuse 8 (rule8 size) xs (refuse 10 rule10 xs (verdict 0 0))))

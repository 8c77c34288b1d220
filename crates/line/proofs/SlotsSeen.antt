-- What the pass keeps of the slots so far.
use mathlib.Core.Path.{◌≡◌, refl, sym, ap, ◌∙◌}
use mathlib.Core.List.{List, [], ◌∷◌, ◌++◌}
use mathlib.Core.Bool.{Bool, true, false}
use Prim.Native.Nat.{ℕ, ◌+◌, ◌≤◌}
use native.Mathlib.Omega.{arith}
use lib.ListN.{length}
use Rattle.std.specs.Prelude.{Option, None}
use Rattle.slots.specs.Lists.{total, All}
use Rattle.slots.specs.Places.{Place}
use Rattle.slots.specs.Stores.{stored}
use Rattle.slots.specs.declared.slot.Slot.{Slot}
use Rattle.slots.proofs.Valid.{Valid}
use Rattle.sets.specs.PlaceSets.{joined, set_of}
use Rattle.sets.specs.StoredSets.{stored_set}
use Rattle.sets.proofs.PlaceSets.{joined_assoc, joined_none_right, set_append}
use Rattle.sets.proofs.StoredSets.{stored_set_lem}
use Rattle.line.specs.Rules.{unit_of}
use Rattle.line.specs.Pass.{slot_counts, usage_of, none_seen, crowded, unit_again, block_full, stores_again, note_all, see}
use Rattle.line.specs.declared.usage.Usage.{Usage}
use Rattle.line.specs.declared.rules.ByRule.{ByRule}
use Rattle.line.specs.declared.rules.Seen.{Seen}
use Rattle.line.proofs.Noted.{noted_in}

abbrev pub slot_usage : Slot → Usage
slot_usage x = usage_of (unit_of x) x

abbrev pub seen_from : Seen → List Slot → Seen
seen_from seen [] = seen
seen_from seen (x ∷ xs) = seen_from (see seen (slot_usage x) false false) xs

abbrev pub seen_in : List Slot → Seen
seen_in xs = seen_from none_seen xs

pub counts_from : (seen : Seen) (xs : List Slot) → (seen_from seen xs).counts ≡ seen.counts + total slot_counts xs
unfolding see
counts_from seen [] = omega arith
counts_from seen (x ∷ xs) = counts_from (see seen (slot_usage x) false false) xs ∙ omega arith

-- ---- the registers that the slots store, as if every THR pair were loaded

abbrev pub stored_loaded : List Slot → List Place
stored_loaded [] = []
stored_loaded (x ∷ xs) = stored true x ++ stored_loaded xs

stored_from : (seen : Seen) (xs : List Slot) → All Valid xs
    → (seen_from seen xs).stored ≡ joined seen.stored (set_of (stored_loaded xs))
unfolding see set_of
stored_from seen [] v = sym (joined_none_right seen.stored)
stored_from seen (x ∷ xs) v =
    stored_from (see seen (slot_usage x) false false) xs v.1
    ∙ joined_assoc seen.stored (stored_set true x) (set_of (stored_loaded xs))
    ∙ ap (joined seen.stored)
    (sym (set_append (stored true x) (stored_loaded xs) ∙ rw (stored_set_lem true x v.0)))

pub stored_in_lem : (xs : List Slot) → All Valid xs → (seen_in xs).stored ≡ set_of (stored_loaded xs)
unfolding joined
stored_in_lem xs v = stored_from none_seen xs v

-- ---- the slots noted: what each slot breaks after those before it

abbrev pub breaks4 : List Slot → Slot → Bool
breaks4 ps x = crowded ((seen_in ps).counts + slot_counts x)

abbrev pub breaks5 : List Slot → Slot → Bool
breaks5 ps x = unit_again (seen_in ps) (unit_of x)

abbrev pub breaks6 : List Slot → Slot → Bool
breaks6 ps x = block_full ((seen_in ps).counts + slot_counts x)

abbrev pub breaks7 : List Slot → Slot → Bool
breaks7 ps x = stores_again (seen_in ps).stored (slot_usage x).stored

abbrev pub noted : List Slot → ByRule (Option ℕ)
noted xs =
    record {
      condition = None;
      modifier = None;
      positions = noted_in breaks4 xs;
      units = noted_in breaks5 xs;
      blocks = noted_in breaks6 xs;
      registers = noted_in breaks7 xs;
    }

pub noted_in_lem : (xs : List Slot) → length xs ≤ 4 → (seen_in xs).noted ≡ noted xs
unfolding see note_all
noted_in_lem [] h = refl
noted_in_lem (a ∷ []) h = refl
noted_in_lem (a ∷ b ∷ []) h = refl
noted_in_lem (a ∷ b ∷ c ∷ []) h = refl
noted_in_lem (a ∷ b ∷ c ∷ d ∷ []) h = refl
noted_in_lem (a ∷ b ∷ c ∷ d ∷ x ∷ xs) h = absurd (omega arith)

-- The memory words that a slot stores are those of its range.
use mathlib.Core.Path.{◌≡◌, refl}
use mathlib.Core.List.{List, []}
use Prim.Native.Nat.{ℕ}
use Rattle.bits.specs.Pick.{pick}
use Rattle.bits.specs.Ops.{is_store}
use Rattle.word.specs.Ialu.{address}
use Rattle.slots.specs.Places.{in_memory}
use Rattle.slots.specs.declared.slot.Slot.{Slot}
use Rattle.slots.specs.declared.slot.Slot.TheVariants.{Alu, Shifter, Trellis, Tmax, Despread, Transfer}
use Rattle.slots.specs.declared.slot.Slot.TheVariants.{Arith, Buffer, Access, DabLoad}
use Rattle.sets.specs.Ranges.{range, no_words}
use Rattle.instructions.specs.Held.{index, modifier}
use Rattle.instructions.specs.Storing.{words_stored}
use Rattle.instructions.specs.StoredWords.{range_stored}

pub record Ranged (x : Slot) (v : List ℕ) : Type 0 where
  pub from : ℕ
  pub count : ℕ
  pub range_is : range_stored x v ≡ range from count
  pub words_are : words_stored x v ≡ in_memory from count

none : (x : Slot) (v : List ℕ) → range_stored x v ≡ no_words → words_stored x v ≡ [] → Ranged x v
none x v r e = record { from = 0; count = 0; range_is = r; words_are = e }

pub ranged : (x : Slot) (v : List ℕ) → Ranged x v
unfolding range_stored
ranged (Alu b op t f s) v = none (Alu b op t f s) v refl refl
ranged (Shifter b op t f s) v = none (Shifter b op t f s) v refl refl
ranged (Trellis b op t f s q) v = none (Trellis b op t f s q) v refl refl
ranged (Tmax b op t f s) v = none (Tmax b op t f s) v refl refl
ranged (Despread b op t f p o) v = none (Despread b op t f p o) v refl refl
ranged (Transfer b op t f) v = none (Transfer b op t f) v refl refl
ranged (Arith ialu op t f s i) v = none (Arith ialu op t f s i) v refl refl
ranged (Buffer ialu op t f) v = none (Buffer ialu op t f) v refl refl
ranged (Access ialu op w file n f s i) v =
    record { from = address op (index v) (modifier v); count = pick (is_store op) w 0; range_is = refl; words_are = refl }
ranged (DabLoad ialu b t f i) v = none (DabLoad ialu b t f i) v refl refl

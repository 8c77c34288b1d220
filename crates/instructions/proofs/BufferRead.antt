-- The circular buffer that the code reads, with the end that the state holds, is the one that a fetch makes of its places; and a
-- slot's fetch holds the end that its base and length make.
use mathlib.Core.Path.{◌≡◌, refl, ap, ◌∙◌}
use mathlib.Core.Bool.{Bool, true, false}
use mathlib.Core.List.{List}
use Prim.Native.Nat.{ℕ, ◌+◌, ◌*◌}
use native.Mathlib.Omega.{arith}
use lib.ListN.{get_or}
use lib.Dec.{eqb}
use borrow.Author.Tests.{eq-eqb, ne_eqb}
use Rattle.bits.specs.Pick.{pick}
use Rattle.bits.specs.Ops.{is_circular}
use Rattle.slots.specs.Places.{Base, Length, place}
use Rattle.slots.specs.declared.slot.Slot.{Slot}
use Rattle.slots.specs.declared.slot.Slot.TheVariants.{Alu, Shifter, Trellis, Tmax, Despread, Transfer}
use Rattle.slots.specs.declared.slot.Slot.TheVariants.{Arith, Buffer, Access, DabLoad}
use Rattle.machine.specs.Machine.{Machine, get, EndsTrue}
use Rattle.machine.specs.Fetches.{values}
use Rattle.layout.specs.Layout.{low_word, high_word, from_words, state_of, machine_of}
use Rattle.layout.proofs.EndWords.{end_true}
use Rattle.instructions.specs.Held.{end_held}
use Rattle.instructions.specs.Fetching.{fetch_of}
use Rattle.instructions.specs.Operands.{length_read, base_read}
use Rattle.instructions.proofs.Fetched.{arith_values, access_values, dab_load_values}

module _ (used : Bool) (ialu f : ℕ) where
  pub no_base : (m : Machine) → length_read used ialu f m ≡ 0 → 0 ≡ base_read used ialu f m
  unfolding base_read
  no_base m e = rw e

  pub base_there : (m : Machine) → (length_read used ialu f m ≡ 0 → ⊥) → get m (place Base (4 * ialu + f)) ≡ base_read used ialu f m
  unfolding base_read
  base_there m n = rw (ne_eqb _ 0 n)

  pub end_there : (ws mem : List ℕ) (end : ℕ) → let m = machine_of ws mem in EndsTrue (state_of ws)
      → (length_read used ialu f m ≡ 0 → ⊥) → end ≡ get_or (state_of ws).end (4 * ialu + f) 0
      → end ≡ get m (place Base (4 * ialu + f)) + length_read used ialu f m
  unfolding length_read
  end_there ws mem end t n e = go used n
    where
      go : (u : Bool) → (pick u (get (machine_of ws mem) (place Length (4 * ialu + f))) 0 ≡ 0 → ⊥)
          → end ≡ get (machine_of ws mem) (place Base (4 * ialu + f)) + pick u (get (machine_of ws mem) (place Length (4 * ialu + f))) 0
      go false k = absurd (k refl)
      go true k = e ∙ end_true ws mem (4 * ialu + f) t k

-- ---- what is held

whole : (n : ℕ) → eqb (from_words (low_word n) (high_word n)) n ≡ true
whole n = eq-eqb _ n (omega arith)

pub end_held_lem : (loaded : Bool) (x : Slot) (m : Machine) → end_held x (values (fetch_of loaded x) m) ≡ true
end_held_lem loaded (Alu b op t f s) m = refl
end_held_lem loaded (Shifter b op t f s) m = refl
end_held_lem loaded (Trellis b op t f s q) m = refl
end_held_lem loaded (Tmax b op t f s) m = refl
end_held_lem loaded (Despread b op t f p o) m = refl
end_held_lem loaded (Transfer b op t f) m = refl
end_held_lem loaded (Arith ialu op t f s i) m =
    rw (arith_values m ialu op f s i) (whole (base_read (is_circular op) ialu f m + length_read (is_circular op) ialu f m))
end_held_lem loaded (Buffer ialu op t f) m = refl
end_held_lem loaded (Access ialu op w file n f s i) m =
    rw (access_values m ialu op w file n f s i)
    (whole (base_read (is_circular op) ialu f m + length_read (is_circular op) ialu f m))
end_held_lem loaded (DabLoad ialu b t f i) m =
    rw (dab_load_values m ialu b f) (whole (base_read true ialu f m + length_read true ialu f m))

pub fetched_end : (loaded : Bool) (x : Slot) (m : Machine) {v : List ℕ} → v ≡ values (fetch_of loaded x) m → end_held x v ≡ true
fetched_end loaded x m e = ap (end_held x) e ∙ end_held_lem loaded x m

-- What the questions of a slot are worth on a machine.
use mathlib.Core.Path.{◌≡◌, refl}
use mathlib.Core.Bool.{Bool, true, false, not}
use mathlib.Core.List.{[], ◌∷◌}
use Prim.Native.Nat.{ℕ, suc, ◌+◌, ◌*◌}
use native.Mathlib.Omega.{arith}
use lib.ListN.{get_or}
use lib.Dec.{eqb}
use Rattle.bits.specs.Pick.{pick}
use Rattle.word.specs.Ialu.{address}
use Rattle.word.specs.Addresses.{quad_at}
use Rattle.bits.specs.Ops.{is_store, is_circular}
use Rattle.slots.specs.Places.{place, R, TR, THR, Base, Length, Flags, Memory, Dab, places, ialu_file, in_ialu, in_file, in_memory}
use Rattle.machine.specs.Machine.{Machine, get}
use Rattle.machine.specs.Fetches.{values, when}
use Rattle.machine.proofs.Fetches.{gets, values_asks}
use Rattle.machine.proofs.Spans.{span_word, when_get}
use Rattle.slots.specs.Slots.{between}
use Rattle.instructions.specs.Fetching.{fetch_despread, fetch_arith, fetch_access, fetch_dab_load}
use Rattle.layout.specs.Layout.{low_word, high_word}
use Rattle.instructions.specs.Operands.{register, operand, length_read, base_read, moved_word}

pub next_of_block : (b i : ℕ) → 32 * b + suc i ≡ suc (32 * b + i)
next_of_block b i = omega arith

pub next_of_four : (b i : ℕ) → 4 * b + suc i ≡ suc (4 * b + i)
next_of_four b i = omega arith

pub register_get : (m : Machine) (ialu i : ℕ) → get_or (gets m (in_ialu ialu i)) 0 0 ≡ register ialu i m
unfolding register gets
register_get m ialu i = go (eqb i 31)
  where
    go : (b : Bool) → get_or (gets m (places (ialu_file ialu) i (pick b 0 1))) 0 0 ≡ pick (not b) (get m (place (ialu_file ialu) i)) 0
    go true = refl
    go false = refl

pub operand_get : (m : Machine) (used : Bool) (ialu s i : ℕ)
    → pick (eqb s 32) i (get_or (gets m (when used (when (not (eqb s 32)) (in_ialu ialu s)))) 0 0) ≡ operand used ialu s i m
unfolding operand gets
operand_get m used ialu s i = by_tests used (eqb s 32)
  where
    by_tests : (u t : Bool)
        → pick t i (get_or (gets m (when u (when (not t) (in_ialu ialu s)))) 0 0) ≡ pick t i (pick u (register ialu s m) 0)
    by_tests u true = refl
    by_tests true false = register_get m ialu s
    by_tests false false = refl

pub second_get : (m : Machine) (ialu s i : ℕ)
    → pick (eqb s 32) i (get_or (gets m (when (not (eqb s 32)) (in_ialu ialu s))) 0 0) ≡ operand true ialu s i m
second_get m ialu s i = operand_get m true ialu s i

-- the words that an access moves
pub moved_get : (m : Machine) (q w : ℕ) (stores : Bool) (file n a : ℕ)
    → get_or (gets m (pick stores (in_file file n w) (in_memory a w))) q 0 ≡ moved_word q w stores file n a m
unfolding moved_word
moved_get m q w true file n a = span_word m _ _ w q
moved_get m q w false file n a = span_word m Memory a w q

-- ---- what a slot holds

pub despread_values : (m : Machine) (b op t f p : ℕ) (loaded : Bool)
    → values (fetch_despread b op t f p loaded) m
    ≡ get m (place TR (32 * b + t))
    ∷ pick (eqb op 13) (get m (place TR (suc (32 * b + t)))) 0
    ∷ get m (place THR (4 * b + p))
    ∷ pick (not loaded) (get m (place THR (suc (4 * b + p)))) 0
    ∷ get m (place R (32 * b + f))
    ∷ get m (place R (suc (32 * b + f)))
    ∷ get m (place R (suc (suc (32 * b + f))))
    ∷ get m (place R (suc (suc (suc (32 * b + f)))))
    ∷ get m (place Flags (4 + b))
    ∷ 0
    ∷ 0
    ∷ 0
    ∷ 0
    ∷ 0
    ∷ 0
    ∷ 0
    ∷ []
unfolding fetch_despread values gets
despread_values m b op t f p loaded = simp (values_asks, when_get, next_of_block, next_of_four)

pub length_get : (m : Machine) (used : Bool) (ialu f : ℕ)
    → pick used (get m (place Length (4 * ialu + f))) 0 ≡ length_read used ialu f m
unfolding length_read
length_get m used ialu f = refl

pub base_get : (m : Machine) (used : Bool) (ialu f : ℕ)
    → pick (not (eqb (length_read used ialu f m) 0)) (get m (place Base (4 * ialu + f))) 0 ≡ base_read used ialu f m
unfolding base_read
base_get m used ialu f = refl

pub arith_values : (m : Machine) (ialu op f s i : ℕ)
    → let b = base_read (is_circular op) ialu f m in
    let l = length_read (is_circular op) ialu f m in
    values (fetch_arith ialu op f s i) m
    ≡ register ialu f m
    ∷ operand (not (between 8 12 op)) ialu s i m
    ∷ b
    ∷ l
    ∷ 0
    ∷ 0
    ∷ 0
    ∷ 0
    ∷ low_word (b + l)
    ∷ high_word (b + l)
    ∷ 0
    ∷ 0
    ∷ 0
    ∷ 0
    ∷ 0
    ∷ 0
    ∷ []
unfolding fetch_arith values
arith_values m ialu op f s i = simp (values_asks, when_get, register_get, operand_get, length_get, base_get)

pub access_values : (m : Machine) (ialu op w file n f s i : ℕ)
    → let x = register ialu f m in
    let y = operand true ialu s i m in
    let a = address op x y in
    let b = base_read (is_circular op) ialu f m in
    let l = length_read (is_circular op) ialu f m in
    values (fetch_access ialu op w file n f s i) m
    ≡ x
    ∷ y
    ∷ b
    ∷ l
    ∷ moved_word 0 w (is_store op) file n a m
    ∷ moved_word 1 w (is_store op) file n a m
    ∷ moved_word 2 w (is_store op) file n a m
    ∷ moved_word 3 w (is_store op) file n a m
    ∷ low_word (b + l)
    ∷ high_word (b + l)
    ∷ 0
    ∷ 0
    ∷ 0
    ∷ 0
    ∷ 0
    ∷ 0
    ∷ []
unfolding fetch_access values
access_values m ialu op w file n f s i =
    simp (values_asks, when_get, register_get, second_get, moved_get, length_get, base_get)

pub dab_load_values : (m : Machine) (ialu b f : ℕ)
    → let x = register ialu f m in
    let a = quad_at x in
    let base = base_read true ialu f m in
    let l = length_read true ialu f m in
    values (fetch_dab_load ialu b f) m
    ≡ x
    ∷ 4
    ∷ base
    ∷ l
    ∷ get m (place Memory a)
    ∷ get m (place Memory (suc a))
    ∷ get m (place Memory (suc (suc a)))
    ∷ get m (place Memory (suc (suc (suc a))))
    ∷ low_word (base + l)
    ∷ high_word (base + l)
    ∷ get m (place Dab (4 * b))
    ∷ get m (place Dab (suc (4 * b)))
    ∷ get m (place Dab (suc (suc (4 * b))))
    ∷ get m (place Dab (suc (suc (suc (4 * b)))))
    ∷ 0
    ∷ 0
    ∷ []
unfolding fetch_dab_load values gets length_read base_read
dab_load_values m ialu b f = simp (values_asks, when_get, register_get)

-- Serves the code only; a reader of 01 can skip it.
-- What the operands of IALU slots are on a machine.
use Rattle.std.specs.Prelude.{ℕ, ◌+◌, ◌*◌, Bool, not, eqb, ltb}
use Rattle.bits.specs.Pick.{pick}
use Rattle.slots.specs.Places.{Base, Length, Memory, place, ialu_file, access_file}
use Rattle.machine.specs.Machine.{Machine, get}
use Rattle.machine.specs.Indices.{past}

-- register i of an IALU: 31 reads as 0
unfoldable pub register : ℕ → ℕ → Machine → ℕ
register ialu i m = pick (not (eqb i 31)) (get m (place (ialu_file ialu) i)) 0

-- second where it is used: 32 stands for imm
unfoldable pub operand : Bool → ℕ → ℕ → ℕ → Machine → ℕ
operand used ialu s i m = pick (eqb s 32) i (pick used (register ialu s m) 0)

-- the circular buffer of register f, where it is used: of a length that is 0 the base is not read
unfoldable pub length_read : Bool → ℕ → ℕ → Machine → ℕ
length_read used ialu f m = pick used (get m (place Length (4 * ialu + f))) 0

unfoldable pub base_read : Bool → ℕ → ℕ → Machine → ℕ
base_read used ialu f m = pick (not (eqb (length_read used ialu f m) 0)) (get m (place Base (4 * ialu + f))) 0

-- the q-th of the w words that an access moves: of registers where it stores, of memory at the address where it loads
unfoldable pub moved_word : ℕ → ℕ → Bool → ℕ → ℕ → ℕ → Machine → ℕ
moved_word q w stores file n addr m =
    pick (ltb q w)
    (pick stores (get m (place (access_file file) (past (pick (ltb file 2) (32 * file) 0 + n) q)))
    (get m (place Memory (past addr q)))) 0

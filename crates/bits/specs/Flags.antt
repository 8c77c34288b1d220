-- A flag group is one word. Its flags stand from the low bit up: ALU AZ AN AV AC; shifter SZ SN; CLU TROV TRSOV;
-- IALU Z N V C.
use Rattle.std.specs.Prelude.{ℕ, ◌+◌, ◌*◌, ◌/◌, ◌%◌, ◌^◌, Bool, true, false, ◌||◌, eqb}
use Rattle.bits.specs.Signed.{negative}
use Rattle.bits.specs.declared.flags.Outcome.{Outcome}

abbrev pub bit : Bool → ℕ
bit true = 1
bit false = 0

-- the flags' word, from the flag at bit 0 up
unfoldable pub flag_word : Bool → Bool → Bool → Bool → ℕ
flag_word f0 f1 f2 f3 = bit f0 + 2 * bit f1 + 4 * bit f2 + 8 * bit f3

-- the flag at bit i of a group's word
unfoldable pub flag : ℕ → ℕ → Bool
flag i w = eqb (w / 2 ^ i % 2) 1

-- Z and N come from the value; V and C are given
unfoldable pub outcome : ℕ → Bool → Bool → Outcome
outcome x v c = record { value = x; flags = flag_word (eqb x 0) (negative x) v c }

-- an op that 01 does not list gives nothing
abbrev pub nothing : Outcome
nothing = record { value = 0; flags = 0 }

-- TROV, and TRSOV, set whenever TROV is set and never cleared
unfoldable pub clu_flags : Bool → ℕ → ℕ
clu_flags trov old = flag_word trov (trov || flag 1 old) false false

-- The words that a slot holds after its fetch, by name: at most fourteen, in one order for every family, with zeros behind those that
-- its family has. The last two of the sixteen are left for its condition (crate conditional).
use Rattle.std.specs.Prelude.{◌≡◌, ℕ, zero, suc, ◌+◌, Bool, true, List, [], ◌∷◌, get_or, eqb}
use Rattle.slots.specs.Families.{on_modifier}
use Rattle.slots.specs.declared.slot.Slot.{Slot}
use Rattle.clu.specs.declared.despread.Pair.{Pair}
use Rattle.instructions.specs.declared.fetch.HeldBuffer.{HeldBuffer}
use Rattle.machine.specs.Fetches.{Ask, done}
use Rattle.layout.specs.Layout.{from_words}

-- word j of some, 0 where there is none
abbrev pub word : ℕ → List ℕ → ℕ
word j vs = get_or vs j 0

abbrev pub held_words : ℕ
held_words = 16

abbrev pub padded : ℕ → List ℕ → List ℕ
padded zero vs = []
padded (suc n) [] = 0 ∷ padded n []
padded (suc n) (v ∷ vs) = v ∷ padded n vs

abbrev pub hold : List ℕ → Ask
hold vs = done (padded held_words vs)

-- ---- ALU, shifter: the operands

abbrev pub first : List ℕ → ℕ
first v = word 0 v

abbrev pub second : List ℕ → ℕ
second v = word 1 v

-- ---- IALU: the operands, of a circular or memory op its index and modifier; base, length and end of its circular buffer, the
-- end in two words

abbrev pub index : List ℕ → ℕ
index v = word 0 v

abbrev pub modifier : List ℕ → ℕ
modifier v = word 1 v

abbrev pub base : List ℕ → ℕ
base v = word 2 v

abbrev pub len : List ℕ → ℕ
len v = word 3 v

abbrev pub end : List ℕ → ℕ
end v = from_words (word 8 v) (word 9 v)

abbrev pub buffer : List ℕ → HeldBuffer
buffer v = record { base = base v; length = len v; end = end v }

-- the end that is held is base + length, as the slot's fetch makes it
abbrev pub EndIs : List ℕ → Type 0
EndIs v = end v ≡ base v + len v

abbrev pub end_held : Slot → List ℕ → Bool
end_held x v = on_modifier true (λ w s i. eqb (end v) (base v + len v)) x

-- the words that an access moves, the new quad of a load through a data alignment buffer; the R quad of a CLU op
abbrev pub quad : List ℕ → List ℕ
quad v = word 4 v ∷ word 5 v ∷ word 6 v ∷ word 7 v ∷ []

-- the words that a data alignment buffer held
abbrev pub old_quad : List ℕ → List ℕ
old_quad v = word 10 v ∷ word 11 v ∷ word 12 v ∷ word 13 v ∷ []

-- ---- CLU: two pairs of words, of which TMAX has the low ones; DESPREAD's are the old TRs and the THR pair. The old flags

abbrev pub pair : ℕ → ℕ → Pair
pair low high = record { low = low; high = high }

abbrev pub first_pair : List ℕ → Pair
first_pair v = pair (word 0 v) (word 1 v)

abbrev pub second_pair : List ℕ → Pair
second_pair v = pair (word 2 v) (word 3 v)

abbrev pub old_flags : List ℕ → ℕ
old_flags v = word 8 v

-- ---- transfer: R first, the R after it, TR first

abbrev pub transfer_r : List ℕ → ℕ
transfer_r v = word 0 v

abbrev pub transfer_next : List ℕ → ℕ
transfer_next v = word 1 v

abbrev pub transfer_tr : List ℕ → ℕ
transfer_tr v = word 2 v

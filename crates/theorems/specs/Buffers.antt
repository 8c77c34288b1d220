-- 01, 'Addresses': a circular access touches the memory words that it loads or stores; its buffer is the words base to
-- base+L−1, by the base and length with its index's number on its own IALU, before the line. A load through a data alignment buffer
-- (document 02, Note 6) is circular, and touches its quad.
use Rattle.std.specs.Prelude.{◌≡◌, List, [], ◌∷◌, ℕ, ◌+◌, ◌*◌, ◌≤◌, ◌<◌}
use Rattle.bits.specs.Pick.{pick}
use Rattle.slots.specs.Lists.{All}
use Rattle.slots.specs.Places.{Base, Length, Place, place}
use Rattle.bits.specs.Ops.{is_circular}
use Rattle.slots.specs.Families.{on_access, on_dab_load}
use Rattle.slots.specs.declared.slot.Slot.{Slot}
use Rattle.slots.specs.declared.conditional_slot.Conditional.{Conditional}
use Rattle.machine.specs.Machine.{Machine, get}
use Rattle.refusals.specs.Refusals.{fetch_line}
use Rattle.conditional.specs.declared.line_slot.Fetched.{Fetched}
use Rattle.execution.specs.PlainLine.{plain_line, refusal_of, line_of}
use Rattle.execution.specs.Touches.{touched}

-- the length and base with the number f of an index of an IALU
abbrev pub length_of : Machine → ℕ → ℕ → ℕ
length_of m ialu f = get m (place Length (4 * ialu + f))

abbrev pub base_of : Machine → ℕ → ℕ → ℕ
base_of m ialu f = get m (place Base (4 * ialu + f))

-- those of a circular access, on the machine before its line; the length is 0 for every other slot
abbrev pub buffer_length : Machine → Slot → ℕ
buffer_length m x =
    on_access (on_dab_load 0 (λ ialu b t f i. length_of m ialu f) x)
    (λ ialu op w file n f s i. pick (is_circular op) (length_of m ialu f) 0) x

abbrev pub buffer_base : Machine → Slot → ℕ
buffer_base m x =
    on_access (on_dab_load 0 (λ ialu b t f i. base_of m ialu f) x) (λ ialu op w file n f s i. base_of m ialu f) x

-- a word of the buffer base to base+len−1
abbrev pub Within : ℕ → ℕ → Place → Type 0
Within base len p = (base ≤ p.index) × (p.index < base + len)

-- a slot that touches the words ps, m being the machine before its line: with a length above 0 they are its buffer's
abbrev pub Buffered : Machine → List Place → Slot → Type 0
Buffered m ps x = 0 < buffer_length m x → All (Within (buffer_base m x) (buffer_length m x)) ps

abbrev pub InBuffer : Machine → Fetched → Type 0
InBuffer m x = Buffered m (touched m x) x.slot.slot

-- every slot of a line, on the machine before the line
abbrev pub InBuffers : List Conditional → Machine → Type 0
InBuffers line m = All (InBuffer m) (fetch_line line m)

-- each line that the plain run does, on the machine before it
abbrev pub Along : (P : List Conditional → Machine → Type 0) → List (List ℕ) → Machine → Type 0
Along P [] m = Unit {0}
Along P (w ∷ ws) m = (refusal_of (line_of w) m).code ≡ 0 → P (line_of w) m × Along P ws (plain_line (line_of w) m)

-- each line of a run that does them all
abbrev pub Every : (P : List Conditional → Machine → Type 0) → List (List ℕ) → Machine → Type 0
Every P [] m = Unit {0}
Every P (w ∷ ws) m = P (line_of w) m × Every P ws (plain_line (line_of w) m)

use mathlib.Core.Path.{◌≡◌, ap, ◌∙◌, sym}
use mathlib.Core.List.{List}
use mathlib.Core.Bool.{Bool, true, false}
use Prim.Native.Nat.{ℕ, ◌+◌, ◌<◌}
use lib.ListN.{set}
use native.Mathlib.Omega.{arith}
use Rattle.slots.specs.Places.{place, file_number}
use Rattle.machine.specs.Machine.{put_alone, renew, of_buffer, put}
use Rattle.layout.specs.Layout.{file_is, start_at, size_at, machine_of}
use Rattle.layout.specs.declared.table.RegisterFile.{RegisterFile}
use Rattle.layout.proofs.Laid.{cell_stored, cell_kept, buffer_cell}
use Rattle.layout.proofs.cell.write.Goals as goal

-- the word stored, and of a base or length register the end renewed
module _ (f : RegisterFile) (ws mem : List ℕ) (i v at n : ℕ) {b : Bool} (size : n ≡ size_at (file_number (file_is f)))
    (start : at ≡ start_at (file_number (file_is f))) (l : i < n) (test : b ≡ of_buffer (file_is f)) where
  word : machine_of (set ws (at + i) v) mem ≡ put_alone (machine_of ws mem) (place (file_is f) i) v
  word = rw start (cell_stored f ws mem i v (rw (← size) l))

  alone : b ≡ false → machine_of (set ws (at + i) v) mem ≡ put (machine_of ws mem) (place (file_is f) i) v
  unfolding put
  alone q = rw (sym test ∙ q) word

  renewed : b ≡ true → (after : List ℕ) → machine_of after mem ≡ renew i (machine_of (set ws (at + i) v) mem)
      → machine_of after mem ≡ put (machine_of ws mem) (place (file_is f) i) v
  unfolding put
  renewed q after e = rw (sym test ∙ q) (e ∙ ap (renew i) word)

pub renew-requires : goal.renew-requires
renew-requires c =
    let e = buffer_cell c.args.file (sym c.of_buffer.ensures ∙ c.if-of_buffer.true) in (
      omega (arith, c.row-start.ensures.1, e),
      omega arith,
    )

pub returns-then-of_buffer : goal.returns-then-of_buffer
returns-then-of_buffer c =
    λ mem.
    renewed c.args.file c.args.files.now mem c.args.i c.args.v _ _ c.row-start.ensures.1
    c.row-start.ensures.0 c.if-i-size.true c.of_buffer.ensures c.if-of_buffer.true _
    (c.renew.ensures mem)

pub returns-else-of_buffer : goal.returns-else-of_buffer
returns-else-of_buffer c =
    λ mem.
    alone c.args.file c.args.files.now mem c.args.i c.args.v _ _ c.row-start.ensures.1
    c.row-start.ensures.0 c.if-i-size.true c.of_buffer.ensures c.if-of_buffer.false

pub returns-else-i-size : goal.returns-else-i-size
returns-else-i-size c = λ mem. cell_kept c.args.file c.args.files.now mem c.args.i
    c.args.v (rw (← c.row-start.ensures.1) c.if-i-size.false)

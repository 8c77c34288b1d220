use Rattle.layout.specs.Layout.{state_of}
use Rattle.states.proofs.words.read_files.Goals as goal

pub returns : goal.returns
unfolding state_of
returns c =
    rw (
      c.file.ensures,
      c.file-2.ensures,
      c.file-3.ensures,
      c.file-4.ensures,
      c.file-5.ensures,
      c.file-6.ensures,
      c.file-7.ensures,
      c.file-8.ensures,
      c.read_ends.ensures,
      c.file-9.ensures,
    )

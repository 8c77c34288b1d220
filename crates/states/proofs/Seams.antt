-- A part of a list replaced by one as long.
use mathlib.Core.Path.{◌≡◌, sym, ◌∙◌}
use mathlib.Core.List.{List, ◌++◌}
use Prim.Native.Nat.{ℕ, ◌+◌, ◌≤◌}
use native.Mathlib.Omega.{arith}
use borrow.Rule.Slice.PartMut.{put_mid, post_of}
use lib.ListN.{length, take, length-append, length-drop}
use lib.Seq.{take_all, take_at, length-take-le}
use Rattle.std.proofs.lemmas.Slice.{take-put_mid}
use Rattle.layout.specs.Layout.{state_words}

-- words whose first n are files laid one behind the other
pub record Laid (words files : List ℕ) (n : ℕ) : Type 0 where
  pub whole : length words ≡ state_words
  pub same : take n words ≡ files

-- the first file, and one more
pub first : (words ys file : List ℕ) (n : ℕ) → length words ≡ state_words → ys ≡ file → length file ≡ n → n ≤ state_words
    → Laid (ys ++ post_of 0 n words) file n
first words ys file n w e l h =
    rw e record { whole = simp (length-append, length-drop) (omega arith); same = take_at file _ n l }

pub next : {words files : List ℕ} {at : ℕ} (ys file : List ℕ) (n to : ℕ) → Laid words files at → ys ≡ file → length file ≡ n
    → at + n ≡ to → to ≤ state_words → Laid (put_mid at n words ys) (files ++ file) to
next {words} {files} {at} ys file n to laid e l t h =
    let front = length-take-le at words (omega arith) in
    rw e record {
      whole = simp (length-append, length-drop, front) (omega arith);
      same = rw (take-put_mid at n words file to (omega arith) (omega arith), laid.same);
    }

-- all of them
pub all : {words files : List ℕ} → Laid words files 246 → words ≡ files
all {words} laid = sym (take_all 246 words (omega arith)) ∙ laid.same

-- What an image that the check passes guarantees: its directory, and each of its lines. The runs stand on it.
use mathlib.Core.Path.{◌≡◌, refl, sym}
use mathlib.Core.List.{List}
use mathlib.Core.Bool.{Bool, true, false}
use Prim.Native.Nat.{ℕ, ◌+◌, ◌*◌, ◌≤◌, ◌<◌}
use native.Mathlib.Omega.{arith}
use lib.ListN.{length, get_or}
use lib.Dec.{ltb}
use borrow.Author.Tests.{ltb-false}
use Rattle.bits.specs.Pick.{pick}
use Rattle.slots.specs.Lists.{All}
use Rattle.line.specs.Rules.{reads_verdict}
use Rattle.line.specs.Lines.{sized, read_line}
use Rattle.line.proofs.Accepted.{Accepted, accepted_line}
use Rattle.image.specs.Directory.{max_words, line_count, directory_end, directory}
use Rattle.image.specs.Check.{answer, line_at, lines_of, line_by_line, check_of}
use Rattle.image.proofs.Pairs.{passed}
use Rattle.image.proofs.Walk.{region_inside, line_sized, line_unbroken, all_lines}

-- line i lies inside the image, is of one to four slots, and breaks no rule
pub record AcceptedAt (w : List ℕ) (i : ℕ) : Type 0 where
  pub inside : get_or w (1 + 2 * i) 0 + get_or w (2 + 2 * i) 0 ≤ length w
  pub whole : sized (length (line_at w i)) ≡ true
  pub unbroken : (reads_verdict (read_line (line_at w i))).code ≡ 0
  pub accepted : Accepted (line_at w i)

pub record AcceptedImage (w : List ℕ) : Type 0 where
  pub words_fit_lem : length w ≤ max_words
  pub directory_passes : directory w ≡ true
  pub directory_fits : directory_end w ≤ length w
  -- the check's walk over the lines finds no refusal
  pub walked : (line_by_line 0 (lines_of w)).code ≡ 0
  pub lines : (i : ℕ) → i < line_count w → AcceptedAt w i

module _ (w : List ℕ) where
  line_at_lem : directory w ≡ true → (line_by_line 0 (lines_of w)).code ≡ 0 → (i : ℕ) → i < line_count w → AcceptedAt w i
  line_at_lem d e i h =
      let s = line_sized w i d h in
      let u = line_unbroken w i e h in
      record { inside = region_inside w i d h; whole = s; unbroken = u; accepted = accepted_line (line_at w i) s u }

  pub accepted_image : (check_of w).code ≡ 0 → AcceptedImage w
  unfolding check_of
  accepted_image e = long (ltb max_words (length w)) refl
    where
      in_directory : length w ≤ max_words → (pick (directory w) (line_by_line 0 (lines_of w)) (answer 2 0 0)).code ≡ 0
          → (b : Bool) → b ≡ directory w → AcceptedImage w
      in_directory h f true d =
          let walk : (line_by_line 0 (lines_of w)).code ≡ 0 = rw (← d) at f in
          record {
            words_fit_lem = h;
            directory_passes = sym d;
            directory_fits = (passed w (sym d)).within;
            walked = walk;
            lines = line_at_lem (sym d) walk;
          }
      in_directory h f false d = absurd (let z : ◌≡◌ {A = ℕ} 2 0 = rw (← d) at f in omega arith)

      long : (b : Bool) → b ≡ ltb max_words (length w) → AcceptedImage w
      long true t = absurd (let z : ◌≡◌ {A = ℕ} 1 0 = rw (← t) at e in omega arith)
      long false t = in_directory (ltb-false max_words (length w) (sym t)) (rw (← t) at e) (directory w) refl

  pub accepted_at : (i : ℕ) → (check_of w).code ≡ 0 → i < line_count w → AcceptedAt w i
  accepted_at i e h = (accepted_image e).lines i h

  -- what the code asks before it lends line i of n
  pub line_there : (i : ℕ) {n : ℕ} → (check_of w).code ≡ 0 → n ≡ line_count w → i < n → (directory w ≡ true) × (i < line_count w)
  line_there i e c h = ((accepted_image e).directory_passes, omega arith)

  pub lines_accepted : (check_of w).code ≡ 0 → All Accepted (lines_of w)
  lines_accepted e = all_lines Accepted w 0 (line_count w) (λ i h. (accepted_at i e (omega arith)).accepted)

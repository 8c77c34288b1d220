-- The check call: code, line and slot of the first refusal of an image.
use Rattle.std.specs.Prelude.{ℕ, zero, suc, ◌+◌, ◌*◌, List, [], ◌∷◌, length, get_or, take, drop, ltb, eqb}
use Rattle.bits.specs.Pick.{pick}
use Rattle.line.specs.Rules.{reads_verdict}
use Rattle.line.specs.Lines.{read_line}
use Rattle.image.specs.Directory.{max_words, line_count, directory}
use Rattle.image.specs.declared.check.Answer.{Answer}

-- line i is its part of the image, by the i-th pair of the directory: its offset, and its length
unfoldable pub line_at : List ℕ → ℕ → List ℕ
line_at w i = take (get_or w (2 + 2 * i) 0) (drop (get_or w (1 + 2 * i) 0) w)

-- n lines, from number i on
unfoldable pub lines_from : List ℕ → ℕ → ℕ → List (List ℕ)
lines_from w i zero = []
lines_from w i (suc n) = line_at w i ∷ lines_from w (suc i) n

abbrev pub lines_of : List ℕ → List (List ℕ)
lines_of w = lines_from w 0 (line_count w)

abbrev pub answer : ℕ → ℕ → ℕ → Answer
answer code line slot = record { code = code; line = line; slot = slot }

-- line by line from number k on: the first that breaks a rule
unfoldable pub line_by_line : ℕ → List (List ℕ) → Answer
line_by_line k [] = answer 0 0 0
line_by_line k (w ∷ ws) =
    pick (eqb (reads_verdict (read_line w)).code 0) (line_by_line (suc k) ws)
    (answer (reads_verdict (read_line w)).code k (reads_verdict (read_line w)).slot)

-- 1 (too long), 2 (directory); then line by line 3 to 7
unfoldable pub check_of : List ℕ → Answer
check_of w =
    pick (ltb max_words (length w)) (answer 1 0 0)
    (pick (directory w) (line_by_line 0 (lines_of w)) (answer 2 0 0))

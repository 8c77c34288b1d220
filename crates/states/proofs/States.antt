-- A state by value and its words are the same machine.
use mathlib.Core.Path.{◌≡◌, refl, sym, ap, ◌∙◌, subst}
use mathlib.Core.List.{List, [], ◌∷◌, ◌++◌, append-nil, append_assoc}
use Prim.Native.Nat.{ℕ, zero, suc, ◌+◌, ◌≤◌, ◌<◌}
use native.Mathlib.Omega.{arith}
use lib.ListN.{length, get_or, take, drop, length-take, length-drop, get_or-eq_default}
use lib.Seq.{take_all, take-add, take-append_seam, drop-append-add, get_or-take, get_or-drop}
use Rattle.bits.proofs.Integers.{by_order}
use Rattle.slots.specs.Places.{File, R, TR, THR, J, K, Base, Length, Flags, Memory, Dab}
use Rattle.machine.specs.Machine.{machine, view}
use Rattle.machine.specs.declared.state.State.{State}
use Rattle.machine.proofs.Places.{by_files}
use Rattle.layout.specs.Layout.{sizes, starts, end_row, row, ends_of, words_of_ends, state_words, state_of, words_of_state, machine_of}
use Rattle.layout.proofs.Laid.{contents, view_laid, ends_laid}
use Rattle.states.proofs.EndsLaid.{ends_of_words, words_of_ends_lem}

-- ---- lists one behind the other

abbrev joined : List (List ℕ) → List ℕ
joined [] = []
joined (x ∷ xs) = x ++ joined xs

abbrev lengths : List (List ℕ) → List ℕ
lengths [] = []
lengths (x ∷ xs) = length x ∷ lengths xs

starts_shift : (l : List ℕ) (s n : ℕ) → n < length l → get_or (starts s l) n 0 ≡ s + get_or (starts 0 l) n 0
starts_shift [] s n h = absurd (omega arith)
starts_shift (x ∷ l) s zero h = omega arith
starts_shift (x ∷ l) s (suc n) h =
    let a = starts_shift l (s + x) n (omega arith) in
    let b = starts_shift l (0 + x) n (omega arith) in
    omega arith

part_joined : (xs : List (List ℕ)) (n : ℕ) → n < length (lengths xs)
    → take (get_or (lengths xs) n 0) (drop (get_or (starts 0 (lengths xs)) n 0) (joined xs)) ≡ get_or xs n []
part_joined [] n h = absurd (omega arith)
part_joined (x ∷ xs) zero h = take-append_seam x (joined xs)
part_joined (x ∷ xs) (suc n) h =
    rw (
      starts_shift (lengths xs) (0 + length x) n (omega arith),
      zero_plus (length x),
      drop-append-add x (joined xs) (get_or (starts 0 (lengths xs)) n 0),
    )
    (part_joined xs n (omega arith))
  where
    zero_plus : (k : ℕ) → 0 + k ≡ k
    zero_plus k = omega arith

part_of : (xs : List (List ℕ)) (zs : List ℕ) (n : ℕ) → lengths xs ≡ zs → n < length zs
    → take (get_or zs n 0) (drop (get_or (starts 0 zs) n 0) (joined xs)) ≡ get_or xs n []
part_of xs zs n e h =
    subst
    (λ (l : List ℕ). n < length l → take (get_or l n 0) (drop (get_or (starts 0 l) n 0) (joined xs)) ≡ get_or xs n [])
    e (part_joined xs n) h

-- ---- the files of a state, and the words of its ends

abbrev files_of : State → List (List ℕ)
files_of s =
    s.r ∷ s.tr ∷ s.thr ∷ s.j ∷ s.k ∷ s.base ∷ s.length ∷ s.flags ∷ words_of_ends s.end
    ∷ s.dab ∷ []

words_joined : (s : State) → words_of_state s ≡ joined (files_of s)
unfolding words_of_state
words_joined s = simp (append_assoc, append-nil)

module _ (s : State) (r : length s.r ≡ 64) (tr : length s.tr ≡ 64) (thr : length s.thr ≡ 8)
    (j : length s.j ≡ 31) (k : length s.k ≡ 31) (base : length s.base ≡ 8) (len : length s.length ≡ 8)
    (flags : length s.flags ≡ 8) (ends : length (words_of_ends s.end) ≡ 16) (dab : length s.dab ≡ 8) where
  sized : lengths (files_of s) ≡ sizes
  sized = rw (r, tr, thr, j, k, base, len, flags, ends, dab)

  row_is : (n : ℕ) → n < length sizes → row (words_of_state s) n ≡ get_or (files_of s) n []
  row_is n h = rw (words_joined s) (part_of (files_of s) sizes n sized h)

  pub laid_state : (ws mem : List ℕ) → ws ≡ words_of_state s → machine_of ws mem ≡ machine s mem
  laid_state ws mem e =
      rw e
      (by_files _ _ (λ f. view_laid (words_of_state s) mem f ∙ go f)
      (ends_laid (words_of_state s) mem ∙ ap ends_of (row_is end_row (omega arith)) ∙ ends_of_words s.end))
    where
      go : (f : File) → contents (words_of_state s) mem f ≡ view (machine s mem) f
      go R = row_is 0 (omega arith)
      go TR = row_is 1 (omega arith)
      go THR = row_is 2 (omega arith)
      go J = row_is 3 (omega arith)
      go K = row_is 4 (omega arith)
      go Base = row_is 5 (omega arith)
      go Length = row_is 6 (omega arith)
      go Flags = row_is 7 (omega arith)
      go Memory = refl
      go Dab = row_is 9 (omega arith)

-- and the state that is gathered; its words are the same
pub words_gathered : (ws : List ℕ) → length ws ≡ state_words → ((i : ℕ) → get_or ws i 0 < 4294967296) → words_of_state (state_of ws) ≡ ws
unfolding state_of words_of_state
words_gathered ws l b =
    rw (words_of_ends_lem (row ws end_row) 8 (simp (length-take, length-drop) (omega arith)) bounded)
    (sym
    (sym (take_all 246 ws (omega arith))
    ∙ rw (
      take-add 238 8 ws,
      take-add 222 16 ws,
      take-add 214 8 ws,
      take-add 206 8 ws,
      take-add 198 8 ws,
      take-add 167 31 ws,
      take-add 136 31 ws,
      take-add 128 8 ws,
      take-add 64 64 ws,
    ) refl))
  where
    bounded : (i : ℕ) → get_or (row ws end_row) i 0 < 4294967296
    bounded i =
        by_order _ 16 i
        (λ past.
        let few : length (row ws end_row) ≤ 16 = simp length-take (omega arith) in
        rw (get_or-eq_default (row ws end_row) 0 {n = i} (omega arith)) (omega arith))
        (λ within. rw (get_or-take 16 (drop 222 ws) i 0 within, get_or-drop 222 ws i 0) (b (222 + i)))

pub gathered_state : (ws mem : List ℕ) {s : State} → s ≡ state_of ws → machine s mem ≡ machine_of ws mem
unfolding machine_of
gathered_state ws mem e = rw e

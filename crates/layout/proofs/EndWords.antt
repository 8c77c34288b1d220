-- The ends in their words: read, renewed one by one, and all of them.
use mathlib.Core.Path.{◌≡◌, refl, ap, ◌∙◌, sym, subst}
use mathlib.Core.Bool.{Bool, true, false}
use mathlib.Core.List.{List, [], ◌∷◌, ◌++◌}
use Prim.Native.Nat.{ℕ, zero, suc, ◌+◌, ◌-◌, ◌*◌, ◌≤◌, ◌<◌, min}
use native.Mathlib.Omega.{arith}
use lib.ListN.{length, get_or, set, take, drop, length-take, length-drop, length-set, get_or-eq_default}
use lib.Seq.{get_or-take, get_or-drop, take-suc, take-suc-set, take_all}
use lib.Dec.{eqb}
use borrow.Author.Tests.{eqb-false, ne_eqb}
use Rattle.bits.specs.Pick.{pick}
use Rattle.slots.specs.Places.{File, Base, Length, Place, place, file_number}
use Rattle.bits.proofs.Integers.{by_order}
use Rattle.machine.specs.Machine.{Machine, view, get, renew, sums, EndsTrue, put_right}
use Rattle.machine.specs.Fetches.{Write, puts}
use Rattle.machine.proofs.Ends.{right_view, true_puts, sums_at, sums_length}
use Rattle.machine.proofs.Places.{renewed_or_not, by_files}
use Rattle.layout.specs.Layout.{state_words, end_row, row, from_words, ends_of, state_of, machine_of}
use Rattle.layout.specs.declared.table.RegisterFile.TheVariants as named
use Rattle.layout.proofs.Laid.{view_laid, ends_laid, ends_few, row_stored, cell_read}

-- ---- numbers of two words

pub number_at : (ws : List ℕ) (i k : ℕ) → k ≡ 2 * i → suc k < length ws
    → from_words (get_or ws k 0) (get_or ws (suc k) 0) ≡ get_or (ends_of ws) i 0
number_at [] i k e h = absurd (omega arith)
number_at (l ∷ []) i k e h = absurd (omega arith)
number_at (l ∷ r ∷ ws) zero k e h = rw (let z : k ≡ 0 = omega arith in z)
number_at (l ∷ r ∷ ws) (suc i) zero e h = absurd (omega arith)
number_at (l ∷ r ∷ ws) (suc i) (suc zero) e h = absurd (omega arith)
number_at (l ∷ r ∷ ws) (suc i) (suc (suc k)) e h = number_at ws i k (omega arith) (omega arith)

number_set : (ws : List ℕ) (i k l h : ℕ) → k ≡ 2 * i → ends_of (set (set ws k l) (suc k) h) ≡ set (ends_of ws) i (from_words l h)
number_set [] i k l h e = refl
number_set (x ∷ []) i zero l h e = refl
number_set (x ∷ []) i (suc k) l h e = refl
number_set (x ∷ y ∷ ws) zero zero l h e = refl
number_set (x ∷ y ∷ ws) zero (suc k) l h e = absurd (omega arith)
number_set (x ∷ y ∷ ws) (suc i) zero l h e = absurd (omega arith)
number_set (x ∷ y ∷ ws) (suc i) (suc zero) l h e = absurd (omega arith)
number_set (x ∷ y ∷ ws) (suc i) (suc (suc k)) l h e =
    ap (λ (r : List ℕ). from_words x y ∷ r) (number_set ws i k l h (omega arith))

pub ends_length : (ws : List ℕ) (n : ℕ) → length ws ≡ 2 * n → length (ends_of ws) ≡ n
ends_length [] n e = omega arith
ends_length (l ∷ []) n e = absurd (omega arith)
ends_length (l ∷ h ∷ ws) zero e = absurd (omega arith)
ends_length (l ∷ h ∷ ws) (suc n) e = ap suc (ends_length ws n (omega arith))

-- ---- one end

module _ (ws : List ℕ) (i : ℕ) (h : i < 8) where
  pub end_read : length ws ≡ state_words → from_words (get_or ws (222 + 2 * i) 0) (get_or ws (222 + 2 * i + 1) 0) ≡ get_or (state_of ws).end i 0
  unfolding state_of
  end_read e =
      let part : List ℕ = drop 222 ws in
      let l : length (take 16 part) ≡ 16 = simp (length-take, length-drop) (omega arith) in
      let next : 222 + 2 * i + 1 ≡ 222 + suc (2 * i) = omega arith in
      rw (
        next,
        ← get_or-drop 222 ws (2 * i) 0,
        ← get_or-drop 222 ws (suc (2 * i)) 0,
        ← get_or-take 16 part (2 * i) 0 (omega arith),
        ← get_or-take 16 part (suc (2 * i)) 0 (omega arith),
      )
      (number_at (take 16 part) i (2 * i) refl (omega arith))

-- past the last
pub end_past : (ws : List ℕ) (i : ℕ) → 8 ≤ i → 0 ≡ get_or (state_of ws).end i 0
unfolding state_of
end_past ws i h = sym (get_or-eq_default (ends_of (row ws end_row)) 0 (omega (arith, ends_few ws)))

-- a word of the ends stored leaves the files
files_kept : (ws mem : List ℕ) (k v : ℕ) → k < 16 → (f : File)
    → view (machine_of (set ws (222 + k) v) mem) f ≡ view (machine_of ws mem) f
files_kept ws mem k v h f =
    view_laid (set ws (222 + k) v) mem f ∙ go (eqb (file_number f) end_row) refl ∙ sym (view_laid ws mem f)
  where
    go : (b : Bool) → eqb (file_number f) end_row ≡ b
        → pick b mem (row (set ws (222 + k) v) (file_number f)) ≡ pick b mem (row ws (file_number f))
    go true q = refl
    go false q =
        row_stored ws end_row (file_number f) k v false
        (ne_eqb end_row (file_number f) (λ e. eqb-false (file_number f) end_row q (sym e))) (omega arith) h

pub renewed : (ws mem : List ℕ) (i l h : ℕ) → i < 8 → from_words l h ≡ get_or ws (198 + i) 0 + get_or ws (206 + i) 0
    → machine_of (set (set ws (222 + 2 * i) l) (222 + 2 * i + 1) h) mem ≡ renew i (machine_of ws mem)
unfolding renew
renewed ws mem i l h b e =
    let next : 222 + 2 * i + 1 ≡ 222 + suc (2 * i) = omega arith in
    let once : List ℕ = set ws (222 + 2 * i) l in
    rw next
    (by_files _ _
    (λ f. files_kept once mem (suc (2 * i)) h (omega arith) f ∙ files_kept ws mem (2 * i) l (omega arith) f
    ∙ sym (renewed_or_not true i (machine_of ws mem) f))
    (ends_laid (set once (222 + suc (2 * i)) h) mem
    ∙ ap ends_of
    (row_stored once end_row end_row (suc (2 * i)) h true refl (omega arith) (omega arith)
    ∙ ap (λ (r : List ℕ). set r (suc (2 * i)) h) (row_stored ws end_row end_row (2 * i) l true refl (omega arith) (omega arith)))
    ∙ number_set (row ws end_row) i (2 * i) l h refl
    ∙ rw (e, cell_read named.Base ws mem i b, cell_read named.Length ws mem i b, ends_laid ws mem)))

-- ---- all ends

-- the first i of them
abbrev pub renew_first : ℕ → Machine → Machine
renew_first zero m = m
renew_first (suc i) m = renew i (renew_first i m)

first_view : (i : ℕ) (m : Machine) (f : File) → view (renew_first i m) f ≡ view m f
first_view zero m f = refl
first_view (suc i) m f = renewed_or_not true i (renew_first i m) f ∙ first_view i m f

first_get : (i : ℕ) (m : Machine) (p : Place) → get (renew_first i m) p ≡ get m p
unfolding get
first_get i m p = rw (first_view i m p.file)

-- the ends after the renewing of one more, by those before
end_renewed : (i : ℕ) (m : Machine)
    → (renew_first (suc i) m).state.end ≡ set (renew_first i m).state.end i (get m (place Base i) + get m (place Length i))
unfolding renew
end_renewed i m = rw (first_get i m (place Base i), first_get i m (place Length i)) refl

module _ (m : Machine) (bl : length (view m Base) ≡ 8) (ll : length (view m Length) ≡ 8) (el : length m.state.end ≡ 8) where
  first_length : (i : ℕ) → length (renew_first i m).state.end ≡ 8
  first_length zero = el
  first_length (suc i) =
      ap length (end_renewed i m)
      ∙ length-set (renew_first i m).state.end i (get m (place Base i) + get m (place Length i))
      ∙ first_length i

  abbrev right : List ℕ
  right = sums (view m Base) (view m Length)

  sum : (i : ℕ) → i < 8 → get m (place Base i) + get m (place Length i) ≡ get_or right i 0
  unfolding get
  sum i h = sym (sums_at (view m Base) (view m Length) i (omega arith) (omega arith))

  first_ends : (i : ℕ) → i ≤ 8 → take i (renew_first i m).state.end ≡ take i right
  first_ends zero h = refl
  first_ends (suc i) h =
      let l = first_length i in
      let s = sums_length (view m Base) (view m Length) 8 bl ll in
      ap (take (suc i)) (end_renewed i m)
      ∙ take-suc-set (renew_first i m).state.end i (get m (place Base i) + get m (place Length i)) (omega arith)
      ∙ ap (λ (v : ℕ). take i (renew_first i m).state.end ++ (v ∷ [])) (sum i (omega arith))
      ∙ ap (λ (r : List ℕ). r ++ (get_or right i 0 ∷ [])) (first_ends i (omega arith))
      ∙ sym (take-suc right i 0 (omega arith))

  all_renewed : renew_first 8 m ≡ put_right m
  unfolding put_right
  all_renewed =
      let l = first_length 8 in
      let s = sums_length (view m Base) (view m Length) 8 bl ll in
      by_files _ _ (λ f. first_view 8 m f ∙ sym (right_view m f))
      (sym (take_all 8 (renew_first 8 m).state.end (omega arith)) ∙ first_ends 8 (omega arith) ∙ take_all 8 right (omega arith))

-- the ends of a state's words, renewed one after the other, are put right
pub all_right : (ws mem : List ℕ) → length ws ≡ state_words → renew_first 8 (machine_of ws mem) ≡ put_right (machine_of ws mem)
all_right ws mem h =
    all_renewed (machine_of ws mem)
    (rw (view_laid ws mem Base) (simp (length-take, length-drop) (omega arith)))
    (rw (view_laid ws mem Length) (simp (length-take, length-drop) (omega arith)))
    (rw (ends_laid ws mem) (ends_length (row ws end_row) 8 (simp (length-take, length-drop) (omega arith))))

-- ---- true ends

-- a buffer whose length is not 0 has its end, where all are true
pub end_true : (ws mem : List ℕ) (i : ℕ) → EndsTrue (state_of ws) → (get (machine_of ws mem) (place Length i) ≡ 0 → ⊥)
    → get_or (state_of ws).end i 0 ≡ get (machine_of ws mem) (place Base i) + get (machine_of ws mem) (place Length i)
unfolding get state_of
end_true ws mem i t n =
    by_order _ (length lengths) i
    (λ past. absurd (n (rw (view_laid ws mem Length) (get_or-eq_default lengths 0 past))))
    (λ within.
    let l : length lengths ≡ min 8 (length ws - 206) = simp (length-take, length-drop) refl in
    let b : length bases ≡ min 8 (length ws - 198) = simp (length-take, length-drop) refl in
    rw (view_laid ws mem Base, view_laid ws mem Length)
    (ap (λ (l : List ℕ). get_or l i 0) t ∙ sums_at bases lengths i (omega arith) within))
  where
    bases : List ℕ
    bases = row ws (file_number Base)

    lengths : List ℕ
    lengths = row ws (file_number Length)

-- the words of a machine whose ends are true
pub true_laid : (ws mem : List ℕ) (m : Machine) → machine_of ws mem ≡ m → EndsTrue m.state → EndsTrue (state_of ws)
unfolding machine_of
true_laid ws mem m e t = subst (λ (n : Machine). EndsTrue n.state) (sym e) t

-- and the machine of words whose ends are true
pub laid_true : (ws mem : List ℕ) → EndsTrue (state_of ws) → EndsTrue (machine_of ws mem).state
unfolding machine_of
laid_true ws mem t = t

-- stores keep them
pub stored_true : (ws after mem mem' : List ℕ) (writes : List Write)
    → machine_of after mem' ≡ puts writes (machine_of ws mem) → EndsTrue (state_of ws) → EndsTrue (state_of after)
stored_true ws after mem mem' writes e t =
    true_laid after mem' (puts writes (machine_of ws mem)) e (true_puts writes (machine_of ws mem) (laid_true ws mem t))

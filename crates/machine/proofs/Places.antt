-- Laws of places: a stored place holds its value, the others are kept, and stores of different places commute, with the ends
-- that they renew.
use mathlib.Core.Path.{◌≡◌, refl, ap, ◌∙◌, sym, fun_ext}
use mathlib.Core.Bool.{Bool, true, false, ◌&&◌, ◌||◌, true≢false}
use mathlib.Core.List.{List}
use Prim.Native.Nat.{ℕ, ◌+◌, ◌<◌}
use lib.ListN.{length, get_or, set}
use lib.Seq.{get_or-set_same, get_or-set_other, set-set, set_comm}
use lib.Dec.{eqb}
use borrow.Author.Tests.{eqb-true, eqb-false, eq-eqb}
use Rattle.bits.specs.Pick.{pick}
use Rattle.slots.specs.Places.{File, R, TR, THR, J, K, Base, Length, Flags, Memory, Dab, Place, place, file_number, file_of, same_place}
use Rattle.slots.proofs.Tests.{and_left, and_right}
use Rattle.machine.specs.Machine.{Machine, view, make, same_file, get, put_alone, renew, of_buffer, put}

-- ---- the test tells places apart

file_number_lem : (f : File) → file_of (file_number f) ≡ f
file_number_lem R = refl
file_number_lem TR = refl
file_number_lem THR = refl
file_number_lem J = refl
file_number_lem K = refl
file_number_lem Base = refl
file_number_lem Length = refl
file_number_lem Flags = refl
file_number_lem Memory = refl
file_number_lem Dab = refl

pub same_refl : (p : Place) → same_place p p ≡ true
same_refl p = rw (eq-eqb (file_number p.file) (file_number p.file) refl, eq-eqb p.index p.index refl)

pub same_true : (p q : Place) → same_place p q ≡ true → p ≡ q
same_true p q e =
    let n : file_number p.file ≡ file_number q.file = eqb-true _ _ (and_left (same_file p.file q.file) _ e) in
    let f : p.file ≡ q.file = sym (file_number_lem p.file) ∙ ap file_of n ∙ file_number_lem q.file in
    let x : p.index ≡ q.index = eqb-true _ _ (and_right (same_file p.file q.file) _ e) in
    λ i. record { file = f i; index = x i }

-- ---- files

pub view_make : (g : File → List ℕ) (ends : List ℕ) (f : File) → view (make g ends) f ≡ g f
view_make g ends R = refl
view_make g ends TR = refl
view_make g ends THR = refl
view_make g ends J = refl
view_make g ends K = refl
view_make g ends Base = refl
view_make g ends Length = refl
view_make g ends Flags = refl
view_make g ends Memory = refl
view_make g ends Dab = refl

-- machines with equal files and ends are equal
pub by_files : (m n : Machine) → ((f : File) → view m f ≡ view n f) → m.state.end ≡ n.state.end → m ≡ n
by_files m n h e = (λ i. make (fun_ext h i) (e i))

pub view_alone : (m : Machine) (p : Place) (v : ℕ) (f : File)
    → view (put_alone m p v) f ≡ pick (same_file p.file f) (set (view m f) p.index v) (view m f)
unfolding put_alone
view_alone m p v f = view_make (λ g. pick (same_file p.file g) (set (view m g) p.index v) (view m g)) m.state.end f

pub end_alone : (m : Machine) (p : Place) (v : ℕ) → (put_alone m p v).state.end ≡ m.state.end
unfolding put_alone
end_alone m p v = refl

pub renewed_or_not : (b : Bool) (i : ℕ) (m : Machine) (f : File) → view (pick b (renew i m) m) f ≡ view m f
unfolding renew
renewed_or_not true i m f = view_make (view m) (set m.state.end i (get m (place Base i) + get m (place Length i))) f
renewed_or_not false i m f = refl

pub view_put : (m : Machine) (p : Place) (v : ℕ) (f : File)
    → view (put m p v) f ≡ pick (same_file p.file f) (set (view m f) p.index v) (view m f)
unfolding put
view_put m p v f = renewed_or_not (of_buffer p.file) p.index (put_alone m p v) f ∙ view_alone m p v f

-- ---- a place after a store

other : (b : Bool) (l : List ℕ) (i j v : ℕ) → (b && eqb i j) ≡ false → get_or (pick b (set l i v) l) j 0 ≡ get_or l j 0
other true l i j v e = get_or-set_other l i j v 0 (λ q. eqb-false i j e (sym q))
other false l i j v e = refl

pub get_put_other : (m : Machine) (p q : Place) (v : ℕ) → same_place p q ≡ false → get (put m p v) q ≡ get m q
unfolding get
get_put_other m p q v e =
    rw (view_put m p v q.file) (other (same_file p.file q.file) (view m q.file) p.index q.index v e)

pub get_put_same : (m : Machine) (p : Place) (v : ℕ) → p.index < length (view m p.file) → get (put m p v) p ≡ v
unfolding get
get_put_same m p v h =
    rw (view_put m p v p.file, eq-eqb (file_number p.file) (file_number p.file) refl)
    (get_or-set_same (view m p.file) p.index v 0 h)

-- ---- the ends after a store

-- base + length of buffer i
abbrev pub sum_at : Machine → ℕ → ℕ
sum_at m i = get m (place Base i) + get m (place Length i)

-- they are renewed from the machine that the store leaves
pub end_put : (m : Machine) (p : Place) (v : ℕ)
    → (put m p v).state.end ≡ pick (of_buffer p.file) (set m.state.end p.index (sum_at (put m p v) p.index)) m.state.end
unfolding put put_alone renew get
end_put m p v = go (of_buffer p.file)
  where
    go : (b : Bool)
        → (pick b (renew p.index (put_alone m p v)) (put_alone m p v)).state.end
        ≡ pick b (set m.state.end p.index (sum_at (pick b (renew p.index (put_alone m p v)) (put_alone m p v)) p.index))
        m.state.end
    go true = refl
    go false = refl

-- a store that is none of buffer j leaves its sum
sum_kept : (m : Machine) (p : Place) (v j : ℕ) → (of_buffer p.file ≡ true → p.index ≡ j → ⊥)
    → sum_at (put m p v) j ≡ sum_at m j
sum_kept m p v j h =
    rw (
      get_put_other m p (place Base j) v
          (apart (same_file p.file Base) (eqb p.index j) refl (λ a. h (rw a))),
      get_put_other m p (place Length j) v
          (apart (same_file p.file Length) (eqb p.index j) refl (λ a. h (rw a (or_true (same_file p.file Base))))),
    )
  where
    apart : (a b : Bool) → b ≡ eqb p.index j → (a ≡ true → p.index ≡ j → ⊥) → (a && b) ≡ false
    apart false b q f = refl
    apart true false q f = refl
    apart true true q f = absurd (f refl (eqb-true p.index j (sym q)))

    or_true : (a : Bool) → (a || true) ≡ true
    or_true true = refl
    or_true false = refl

-- ---- stores of two places, in either order

both_ways : (a b : Bool) (l : List ℕ) (i j v w : ℕ) → (a ≡ true → b ≡ true → i ≡ j → ⊥)
    → pick b (set (pick a (set l i v) l) j w) (pick a (set l i v) l)
    ≡ pick a (set (pick b (set l j w) l) i v) (pick b (set l j w) l)
both_ways true true l i j v w h = set_comm l i j v w (h refl refl)
both_ways true false l i j v w h = refl
both_ways false true l i j v w h = refl
both_ways false false l i j v w h = refl

differ : (p q : Place) (f : File) → same_place p q ≡ false → same_file p.file f ≡ true → same_file q.file f ≡ true
    → p.index ≡ q.index → ⊥
differ p q f e a b h =
    let n : file_number p.file ≡ file_number q.file = eqb-true _ _ a ∙ sym (eqb-true _ _ b) in
    true≢false (sym (eq-eqb _ _ h) ∙ sym (rw (eq-eqb (file_number p.file) (file_number q.file) n)) ∙ e)

views_comm : (m : Machine) (p q : Place) (v w : ℕ) → same_place p q ≡ false → (f : File)
    → view (put (put m p v) q w) f ≡ view (put (put m q w) p v) f
views_comm m p q v w e f =
    simp view_put
    (both_ways (same_file p.file f) (same_file q.file f) (view m f) p.index q.index v w (differ p q f e))

-- two ends set: x' and y' are what the first store renews, x and y what the second does
ends_both_ways : (a b c : Bool) (l : List ℕ) (i j x x' y y' : ℕ) → eqb i j ≡ c
    → ((a ≡ true → i ≡ j → ⊥) → y ≡ y') → ((b ≡ true → j ≡ i → ⊥) → x ≡ x') → (i ≡ j → x ≡ y)
    → pick b (set (pick a (set l i x') l) j y) (pick a (set l i x') l)
    ≡ pick a (set (pick b (set l j y') l) i x) (pick b (set l j y') l)
ends_both_ways false false c l i j x x' y y' q f g h = refl
ends_both_ways false true c l i j x x' y y' q f g h = ap (set l j) (f (λ e. absurd (true≢false (sym e))))
ends_both_ways true false c l i j x x' y y' q f g h = sym (ap (set l i) (g (λ e. absurd (true≢false (sym e)))))
ends_both_ways true true true l i j x x' y y' q f g h =
    let e = eqb-true i j q in rw (← e, set-set l i x' y, set-set l i y' x) (sym (ap (set l i) (h e)))
ends_both_ways true true false l i j x x' y y' q f g h =
    let d = eqb-false i j q in
    rw (f (λ t. d), ← g (λ t e. d (sym e))) (set_comm l i j x y' d)

same_sum : (m n : Machine) → ((f : File) → view m f ≡ view n f) → (i : ℕ) → sum_at m i ≡ sum_at n i
unfolding get
same_sum m n h i = rw (h Base, h Length)

pub put_comm : (m : Machine) (p q : Place) (v w : ℕ) → same_place p q ≡ false
    → put (put m p v) q w ≡ put (put m q w) p v
put_comm m p q v w e = by_files _ _ views ends
  where
    views : (f : File) → view (put (put m p v) q w) f ≡ view (put (put m q w) p v) f
    views = views_comm m p q v w e

    same : (i : ℕ) → sum_at (put (put m p v) q w) i ≡ sum_at (put (put m q w) p v) i
    same = same_sum _ _ views

    -- the ends of the second store, by those of the first
    second : (b : Bool) (j x : ℕ) (e e' : List ℕ) → e ≡ e' → pick b (set e j x) e ≡ pick b (set e' j x) e'
    second b j x e e' h = ap (λ (l : List ℕ). pick b (set l j x) l) h

    ends : (put (put m p v) q w).state.end ≡ (put (put m q w) p v).state.end
    ends =
        end_put (put m p v) q w
        ∙ second (of_buffer q.file) q.index _ _ _ (end_put m p v)
        ∙ ends_both_ways (of_buffer p.file) (of_buffer q.file) _ m.state.end p.index q.index _ _ _ _ refl
        (λ h. same q.index ∙ sum_kept (put m q w) p v q.index h)
        (λ h. sym (same p.index) ∙ sum_kept (put m p v) q w p.index h)
        (λ h. sym (same p.index) ∙ ap (sum_at (put (put m p v) q w)) h)
        ∙ sym (second (of_buffer p.file) p.index _ _ _ (end_put m q w))
        ∙ sym (end_put (put m q w) p v)

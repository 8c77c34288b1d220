-- Walks over a text, one byte or entry at a time: what is left, from index i on, gives what the whole gives.
use Rattle.std.proofs.Common.{◌≡◌, ℕ, suc, ◌+◌, ◌-◌, ◌*◌, ◌/◌, ◌<◌, ◌≤◌, Bool, true, false, not, cond, ◌&&◌, Option, None, Some, unwrap_or, ltb, leb, List, [], ◌∷◌, length, get_or, take, drop, sym, refl, ◌∙◌, add-one, arith, drop_of_length-le, drop-cons, drop-drop, le-ltb, lt-ltb, ltb-false}
use native.Mathlib.Nat.{sub-zero}
use Rattle.bits.specs.Pick.{pick}
use Rattle.text.proofs.Lists.{tail}
use Rattle.std.specs.List.{position, position_or_len}
use Rattle.std.specs.Char.{digit_value}
use Rattle.text.specs.Parts.{until, after}
use Rattle.text.specs.Numerals.{base, digits, digits_from}
use Rattle.text.specs.Tables.{named, entry_from, entry_of}

-- ---- until

module _ (low high : ℕ) where
  abbrev pub sought : ℕ → Bool
  sought b = leb low b && leb b high

  until_is : (cs : List ℕ) → (position_or_len sought cs ≡ until low high cs) × (until low high cs ≤ length cs)
  unfolding until
  until_is [] = (refl, omega arith)
  until_is (c ∷ cs) = go (sought c) _ _ (until_is cs)
    where
      go : (t : Bool) (m n : ℕ) → (m ≡ n) × (n ≤ length cs)
          → (cond (not t) (1 + m) 0 ≡ pick t 0 (suc n)) × (pick t 0 (suc n) ≤ length (c ∷ cs))
      go true m n h = (refl, omega arith)
      go false m n h = (omega arith, omega arith)

  -- where none is found, all of them stand before it
  pub first_found : (cs : List ℕ) (p : Option ℕ) (r : ℕ) → p ≡ position sought cs → r ≡ unwrap_or p (length cs)
      → (r ≡ until low high cs) × (r ≤ length cs)
  first_found cs p r e q =
      let u = until_is cs in
      let same : unwrap_or (position sought cs) (length cs) ≡ position_or_len sought cs
      = go (position_or_len sought cs) (length cs) (omega arith) in
      let k : r ≡ until low high cs = q ∙ rw e same ∙ u.0 in
      (k, omega arith)
    where
      go : (m n : ℕ) → m ≤ n → unwrap_or (cond (ltb m n) (Some m) None) n ≡ m
      go m n h = by_test (ltb m n) refl
        where
          by_test : (t : Bool) → ltb m n ≡ t → unwrap_or (cond t (Some m) None) n ≡ m
          by_test true e = refl
          by_test false e = let l = ltb-false m n e in omega arith

-- ---- what stands behind a byte

pub behind : (cs : List ℕ) (b n : ℕ) → n ≡ until b b cs → take (length cs - (n + 1)) (drop (n + 1) cs) ≡ after b cs
behind cs b n e = rw (← e) (tail cs (n + 1))

pub nothing_behind : (cs : List ℕ) (b n : ℕ) → n ≡ until b b cs → length cs ≤ n → take (length cs - n) (drop n cs) ≡ after b cs
nothing_behind cs b n e h =
    let x = drop_of_length-le cs {i = n} h in
    let y = drop_of_length-le cs {i = n + 1} (omega arith) in
    rw (← e, tail cs n, x, y) refl

-- ---- digits

module _ (hex : Bool) (text : List ℕ) where
  pub no_digits : length text ≡ 0 → None ≡ digits hex text
  unfolding digits
  no_digits e = go text e
    where
      go : (cs : List ℕ) → length cs ≡ 0 → None ≡ digits hex cs
      go [] h = refl
      go (c ∷ cs) h = absurd (omega arith)

  pub some_digits : (length text ≡ 0 → ⊥) → digits hex text ≡ digits_from hex 0 text
  unfolding digits
  some_digits f = go text f
    where
      go : (cs : List ℕ) → (length cs ≡ 0 → ⊥) → digits hex cs ≡ digits_from hex 0 cs
      go [] h = absurd (h refl)
      go (c ∷ cs) h = refl

  -- the digits from i on, behind those of a value
  abbrev pub rest : ℕ → ℕ → Option ℕ
  rest value i = digits_from hex value (drop i text)

  module _ (value i d b : ℕ) (h : i < length text) (e : digits hex text ≡ rest value i) (is : d ≡ digit_value (get_or text i 0))
      (same : b ≡ base hex) where
    step_digit : digits hex text
        ≡ pick (ltb d b) (pick (ltb 0xFFFFFFFF (value * b + d)) None (rest (value * b + d) (suc i))) None
    unfolding digits_from
    step_digit = e ∙ rw (drop-cons text i 0 h, is, same) refl

    pub no_digit : (d < b → ⊥) → None ≡ digits hex text
    no_digit g =
        let t : ltb d b ≡ false = le-ltb d b (omega arith) in
        sym (step_digit ∙ rw t refl)

    module _ (g : d < b) (m : ℕ) (q : m ≡ value * b) where
      pub too_large : (m + d < 4294967296 → ⊥) → None ≡ digits hex text
      too_large k =
          let t : ltb d b ≡ true = lt-ltb d b g in
          let u : ltb 0xFFFFFFFF (value * b + d) ≡ true = lt-ltb 0xFFFFFFFF (value * b + d) (omega arith) in
          sym (step_digit ∙ rw (t, u) refl)

      pub next_digit : (v : ℕ) → v ≡ m + d → v < 4294967296 → digits hex text ≡ rest v (i + 1)
      next_digit v w k =
          let t : ltb d b ≡ true = lt-ltb d b g in
          let u : ltb 0xFFFFFFFF (value * b + d) ≡ false = le-ltb 0xFFFFFFFF (value * b + d) (omega arith) in
          rw (w, q, add-one i) (step_digit ∙ rw (t, u) refl)

  pub all_digits : (value i : ℕ) → length text ≤ i → digits hex text ≡ rest value i → Some value ≡ digits hex text
  unfolding digits_from
  all_digits value i h e = sym (e ∙ rw (drop_of_length-le text {i = i} h) refl)

-- ---- entries of a table

module _ (table word : List ℕ) where
  abbrev pub entries : ℕ → ℕ → Option ℕ
  entries n i = entry_from i (n - i) (drop (8 * i) table) word

  -- the entry at i, as the code cuts it out
  abbrev pub entry_at : ℕ → List ℕ
  entry_at i = take (8 * i + 8 - 8 * i) (drop (8 * i) table)

  pub first_entry : entry_of table word ≡ entries (length table / 8) 0
  first_entry = rw (sub-zero (length table / 8)) refl

  step_entry : (n i : ℕ) → i < n → entries n i ≡ pick (named (entry_at i) word) (Some i) (entries n (i + 1))
  unfolding entry_from
  step_entry n i h =
      let k : n - i ≡ suc (n - (i + 1)) = omega arith in
      let s : 8 * i + 8 - 8 * i ≡ 8 = omega arith in
      let a : 8 * (i + 1) ≡ 8 * i + 8 = omega arith in
      rw (k, s, a, ← drop-drop 8 (8 * i) table) refl

  pub entry_found : (n i : ℕ) (b : Bool) → i < n → b ≡ named (entry_at i) word → b ≡ true
      → entry_of table word ≡ entries n i → Some i ≡ entry_of table word
  entry_found n i b h q t e = sym (e ∙ step_entry n i h ∙ rw (sym q ∙ t) refl)

  pub entry_passed : (n i : ℕ) (b : Bool) → i < n → b ≡ named (entry_at i) word → b ≡ false
      → entry_of table word ≡ entries n i → entry_of table word ≡ entries n (i + 1)
  entry_passed n i b h q f e = e ∙ step_entry n i h ∙ rw (sym q ∙ f) refl

  pub no_entry : (n i : ℕ) → n ≤ i → entry_of table word ≡ entries n i → None ≡ entry_of table word
  unfolding entry_from
  no_entry n i h e =
      let k : n - i ≡ 0 = omega arith in
      sym (e ∙ rw k refl)

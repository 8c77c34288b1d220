-- The numbers of a text, read one after the other: one that is none, or has no room, leaves none at all on the side of Ok.
use Rattle.std.proofs.Common.{◌≡◌, ℕ, Bool, true, Option, None, Some, Result, Ok, Err, List, [], ◌∷◌, length, sym, refl, ap, ◌∙◌, arith, le-ltb}
use Rattle.std.specs.List.{fold}
use Rattle.std.specs.Result.{result_ok}
use Rattle.std.proofs.lemmas.List.Folds.{fold_stays}
use Rattle.text.specs.Parts.{split}
use Rattle.text.specs.Numerals.{number}
use Rattle.text.specs.Numbers.{room, longer, is_number, one_more, spoilt, taken, words_in}

spoilt_none : (r : Result (List ℕ) (List ℕ)) → result_ok (spoilt r) ≡ None
spoilt_none (Ok ws) = refl
spoilt_none (Err ws) = refl

-- one who asks for good words alone folds over options, by any f that goes on from words and stays at none
module _ (f : Option (List ℕ) → List ℕ → Option (List ℕ)) (goes : (ws token : List ℕ) → f (Some ws) token ≡ result_ok (one_more ws token))
    (stays : (token : List ℕ) → f None token ≡ None) where
  ok_taken : (r : Result (List ℕ) (List ℕ)) (token : List ℕ) → result_ok (taken r token) ≡ f (result_ok r) token
  ok_taken (Ok ws) token = sym (goes ws token)
  ok_taken (Err ws) token = spoilt_none (one_more ws token) ∙ sym (stays token)

  ok_fold : (r : Result (List ℕ) (List ℕ)) (ts : List (List ℕ)) → result_ok (fold taken r ts) ≡ fold f (result_ok r) ts
  ok_fold r [] = refl
  ok_fold r (t ∷ ts) = ok_fold (taken r t) ts ∙ ap (λ (o : Option (List ℕ)). fold f o ts) (ok_taken r t)

  pub ok_words : (text : List ℕ) → result_ok (words_in text) ≡ fold f (Some []) (split 32 text)
  unfolding words_in
  ok_words text = ok_fold (Ok []) (split 32 text)

-- behind a bad one there are none
abbrev good_next : Option (List ℕ) → List ℕ → Option (List ℕ)
good_next (Some ws) token = result_ok (one_more ws token)
good_next None token = None

none_more : (ws : List ℕ) (ts : List (List ℕ)) → result_ok (fold taken (Err ws) ts) ≡ None
none_more ws ts = ok_fold good_next (λ ws token. refl) (λ token. refl) (Err ws) ts ∙ fold_stays good_next None (λ token. refl) ts

module _ (whole : Result (List ℕ) (List ℕ)) (ws : List ℕ) (ls : List (List ℕ)) (token : List ℕ) (rest : List (List ℕ))
    (e : whole ≡ fold taken (Ok ws) ls) (s : ls ≡ token ∷ rest) (b : Bool) (is : b ≡ is_number token) (t : b ≡ true) where
  stopped : longer ws (number token) ≡ Err ws → None ≡ result_ok whole
  stopped q =
      let k : taken (Ok ws) token ≡ Err ws = rw (sym is ∙ t, q) in
      sym (rw (e, s, k) (none_more ws rest))

  pub no_number : (n : Option ℕ) → n ≡ number token → n ≡ None → None ≡ result_ok whole
  no_number n p q = stopped (rw (sym p ∙ q) refl)

  pub no_room : (n : Option ℕ) (v : ℕ) → n ≡ number token → n ≡ Some v → length ws ≡ room → None ≡ result_ok whole
  no_room n v p q full = stopped (rw (sym p ∙ q, le-ltb (length ws) room (omega arith)) refl)

use Rattle.std.proofs.Common.{◌≡◌, List, [], ◌∷◌, ℕ, zero, suc, Bor, Option, None, Some, get_or, option_map, unwrap_or, slice_get, refl, ap, ◌∙◌}
use Rattle.std.proofs.lemmas.Iterator.Consumers.{nth_from_yields_List, YieldsList-from_first}
use Rattle.text.specs.Parts.{left, split}
use Rattle.text.proofs.parts.part.Goals as goal

element : (xs : List (List ℕ)) (k : ℕ) → unwrap_or (slice_get xs k) [] ≡ get_or xs k []
element [] k = refl
element (x ∷ xs) zero = refl
element (x ∷ xs) (suc k) = element xs k

read : (p : Option (Bor (List ℕ))) (d : Bor (List ℕ)) → (unwrap_or p d).now ≡ unwrap_or (option_map (λ x. x.now) p) d.now
read None d = refl
read (Some x) d = refl

pub returns : goal.returns
returns c =
    let a = c.args in
    let q : option_map (λ x. x.now) c.nth.result ≡ slice_get (split a.b a.text.now) a.k = nth_from_yields_List _ c.nth.new.self a.k c.nth.ensures.ran (YieldsList-from_first (λ x. x.now) left (split a.b a.text.now) c.split.ensures) in
    ap (λ (r : Bor (List ℕ)). r.now) c.unwrap_or.ensures ∙ read c.nth.result _ ∙ ap (λ (p : Option (List ℕ)). unwrap_or p []) q ∙ element (split a.b a.text.now) a.k

use Rattle.std.proofs.Common.{refl, ℕ, ◌+◌, ◌*◌, get_or, ◌∙◌, arith, rules, add-one}
use Rattle.std.proofs.lemmas.Grind.{same_number_lists}
use Rattle.layout.specs.Layout.{from_words}
use Rattle.layout.proofs.EndWords.{ends_length, number_at}
use Rattle.layout.proofs.Made.{made}
use Rattle.states.proofs.words.read_ends.Goals as goal

pub returns : goal.returns
returns c =
    let ws = c.args.words.now in
    let v : ℕ → ℕ = λ i. from_words (get_or ws (2 * i) 0) (get_or ws (2 * i + 1) 0) in
    let items = c.from_fn.ensures.items in
    let n = ends_length ws 8 c.requires in
    same_number_lists _ _ (omega (arith, items.long)) (λ k l.
    made _ _ v (λ i y f' t. search rules) c.from_fn.result 8 k items.each (omega (arith, items.long))
    ∙ rw add-one (number_at ws k (2 * k) refl (omega (arith, items.long))))

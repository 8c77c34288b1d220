-- A saturated sum or difference of two words, as the code reads it.
use Rattle.std.proofs.Common.{◌≡◌, ℕ, ◌^◌, ◌<◌, ℤ, ap, ap₂, ◌∙◌}
use lib.Signed.{mag}
use Rattle.bits.specs.Signed.{signed, wrap, overflows, saturate}
use Rattle.bits.specs.Sums.{sat}
use Rattle.bits.specs.declared.signed.Saturated.{Saturated}
use Rattle.bits.proofs.SignedWords.{read, read_is, over_of, value_of}

module _ (join : ℤ → ℤ → ℤ) (a b : ℕ) (x y : ℤ) (s : Saturated) (ex : x ≡ signed 32 a) (fx : mag x < 2 ^ 31) (ey : y ≡ signed 32 b)
    (fy : mag y < 2 ^ 31) (e : s ≡ sat 32 (join (read x) (read y))) where
  exact : join (read x) (read y) ≡ join (signed 32 a) (signed 32 b)
  exact = ap₂ join (read_is x fx ∙ ex) (read_is y fy ∙ ey)

  pub over_is : s.over ≡ overflows 32 (join (signed 32 a) (signed 32 b))
  over_is = over_of 32 _ s e ∙ ap (overflows 32) exact

  pub word_is : mag s.value < 2 ^ 31 → wrap 32 (read s.value) ≡ wrap 32 (saturate 32 (join (signed 32 a) (signed 32 b)))
  word_is f = ap (wrap 32) (read_is s.value f ∙ value_of 32 _ s e ∙ ap (saturate 32) exact)

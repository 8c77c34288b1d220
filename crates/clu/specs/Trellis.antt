-- Units 5, 6: X, Y CLU, ops 1 to 8: TMAX or MAX of two sums or differences.
use Rattle.std.specs.Prelude.{ℕ, ◌||◌, eqb, ℤ, ◌+ℤ◌, ◌-ℤ◌}
use Rattle.bits.specs.Pick.{pick}
use Rattle.bits.specs.Signed.{signed}
use Rattle.bits.specs.Sums.{sat}
use Rattle.bits.specs.declared.signed.Saturated.{Saturated}
use Rattle.bits.specs.declared.signed.Sum.{Sum}
use Rattle.clu.specs.Tmax.{tmax, larger, as_word, as_shorts, low, high}

-- the best of two saturated sums; each sum saturates, and the flag is set when any did
unfoldable pub best_of : ℕ → (ℕ → ℤ → ℤ → Saturated) → Saturated → Saturated → Saturated
best_of n best p q =
    record { value = (best n p.value q.value).value; over = (p.over || q.over) || (best n p.value q.value).over }

-- a ± r against b ± s, at n bits
unfoldable pub lane : ℕ → (ℕ → ℤ → ℤ → Saturated) → (ℤ → ℤ → ℤ) → ℤ → ℤ → ℤ → ℤ → Saturated
lane n best join a r b s = best_of n best (sat n (join a r)) (sat n (join b s))

-- ops 1-4 on words, 5-8 on shorts
unfoldable pub words : (ℕ → ℤ → ℤ → Saturated) → (ℤ → ℤ → ℤ) → ℕ → ℕ → ℕ → ℕ → Sum
words best join a r b s = as_word (lane 32 best join (signed 32 a) (signed 32 r) (signed 32 b) (signed 32 s))

unfoldable pub shorts : (ℕ → ℤ → ℤ → Saturated) → (ℤ → ℤ → ℤ) → ℕ → ℕ → ℕ → ℕ → Sum
shorts best join a r b s =
    as_shorts (lane 16 best join (low a) (low r) (low b) (low s)) (lane 16 best join (high a) (high r) (high b) (high s))

-- TMAX with +, TMAX with −, MAX with +, MAX with −; the last case is op 8, since the dispatch hands on no other
unfoldable pub trellis : ℕ → ℕ → ℕ → ℕ → ℕ → Sum
trellis op a r b s =
    pick (eqb op 1) (words tmax ◌+ℤ◌ a r b s)
    (pick (eqb op 2) (words tmax ◌-ℤ◌ a r b s)
    (pick (eqb op 3) (words larger ◌+ℤ◌ a r b s)
    (pick (eqb op 4) (words larger ◌-ℤ◌ a r b s)
    (pick (eqb op 5) (shorts tmax ◌+ℤ◌ a r b s)
    (pick (eqb op 6) (shorts tmax ◌-ℤ◌ a r b s)
    (pick (eqb op 7) (shorts larger ◌+ℤ◌ a r b s)
    (shorts larger ◌-ℤ◌ a r b s)))))))

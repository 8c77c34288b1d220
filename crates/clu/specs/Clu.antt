-- Units 5, 6: X, Y CLU, every op.
use Rattle.std.specs.Prelude.{ℕ, false, ◌||◌, ◌&&◌, List, leb, eqb, get_or}
use Rattle.bits.specs.Pick.{pick}
use Rattle.bits.specs.Flags.{clu_flags}
use Rattle.bits.specs.declared.signed.Sum.{Sum}
use Rattle.clu.specs.Tmax.{tmax_words, tmax_shorts, add_shorts}
use Rattle.clu.specs.Trellis.{trellis}
use Rattle.clu.specs.Despread.{despread}
use Rattle.clu.specs.declared.despread.Pair.{Pair}
use Rattle.clu.specs.declared.unit.CluOutcome.{CluOutcome}

-- one or two words, and the flag group: TROV is 1 when any sum saturated, else 0
unfoldable pub one : Sum → ℕ → CluOutcome
one w old = record { low = w.value; high = 0; flags = clu_flags w.over old }

unfoldable pub two : Sum → Sum → ℕ → CluOutcome
two l h old = record { low = l.value; high = h.value; flags = clu_flags (l.over || h.over) old }

-- ops 1-8: for i = 0, 1, TR(s+i) from TR(m+i) ± R(q+2+i) and TR(n+i) ± R(q+i)
abbrev pub at_low : ℕ → Pair → Pair → List ℕ → Sum
at_low op x y q = trellis op x.low (get_or q 2 0) y.low (get_or q 0 0)

abbrev pub at_high : ℕ → Pair → Pair → List ℕ → Sum
at_high op x y q = trellis op x.high (get_or q 3 0) y.high (get_or q 1 0)

-- a word that no saturating sum made
abbrev pub exact : ℕ → Sum
exact w = record { value = w; over = false }

-- What an op makes of two pairs of registers, an R quad and the old flag group:
--     1-8     x is TR m, m+1; y is TR n, n+1; the quad is R q to q+3
--     9, 10   x low is TR first, y low TR second
--     11-13   x is TR target and the next as they were; y is the THR pair; the quad is R first to first+3
-- The low word goes to the target, which is TR target, or R target in 9, 10; the high word to the register after it
unfoldable pub clu : ℕ → Pair → Pair → List ℕ → ℕ → CluOutcome
clu op x y q old =
    pick (leb 1 op && leb op 8)
    (two (at_low op x y q) (at_high op x y q) old)
    (pick (eqb op 9) (one (tmax_words x.low y.low) old)
    (pick (eqb op 10) (one (tmax_shorts x.low y.low) old)
    (pick (eqb op 11) (one (add_shorts x.low (despread q y.low 0 8)) old)
    (pick (eqb op 12) (one (exact (despread q y.low 0 8)) old)
    (pick (eqb op 13) (two (exact (despread q y.low 0 4)) (exact (despread q y.low 4 4)) old)
    (record { low = 0; high = 0; flags = 0 }))))))

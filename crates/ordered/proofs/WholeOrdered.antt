-- The ordered run's test of its orders, and where it goes on with the lines.
use mathlib.Core.Path.{◌≡◌, sym, ap, ◌∙◌}
use mathlib.Core.List.{List}
use Prim.Native.Nat.{ℕ, ◌*◌}
use lib.ListN.{length}
use lib.Dec.{eqb}
use borrow.Author.Tests.{eq-eqb, ne_eqb}
use Rattle.bits.specs.Pick.{pick}
use Rattle.image.specs.Directory.{line_count}
use Rattle.image.specs.Check.{lines_of}
use Rattle.machine.specs.Machine.{Machine}
use Rattle.runs.specs.Plain.{End, ended, report}
use Rattle.ordered.specs.Ordered.{order_bytes, ordered_from}

-- what follows when the check has passed
abbrev pub ordered_lines : List ℕ → List ℕ → ℕ → Machine → End
ordered_lines w os limit m =
    pick (eqb (length os) (order_bytes * line_count w)) (ordered_from limit 0 0 (lines_of w) os m) (ended (report 11 0 0 0 0) m)

module _ (w os : List ℕ) (limit : ℕ) {n : ℕ} (c : n ≡ line_count w) (m : Machine) where
  pub orders_refused : (length os ≡ 8 * n → ⊥) → ended (report 11 0 0 0 0) m ≡ ordered_lines w os limit m
  orders_refused d = rw (ne_eqb (length os) (8 * line_count w) (λ q. d (q ∙ ap (λ (k : ℕ). 8 * k) (sym c))))

  pub orders_counted : length os ≡ 8 * n → ordered_from limit 0 0 (lines_of w) os m ≡ ordered_lines w os limit m
  orders_counted d = rw (eq-eqb (length os) (8 * line_count w) (d ∙ ap (λ (k : ℕ). 8 * k) c))

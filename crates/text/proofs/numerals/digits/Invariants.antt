use Rattle.std.proofs.Common.{◌≡◌}
use Rattle.text.specs.Numerals.{digits}
use Rattle.text.proofs.Scans.{rest}
use Rattle.text.proofs.numerals.digits.Given as goal

abbrev pub invariant-loop-c : goal.invariant-loop-c
invariant-loop-c l = digits l.hex l.text ≡ rest l.hex l.text l.value l.c-index

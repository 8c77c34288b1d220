-- 01, 'Whose doing a refusal is': a code and a slot for each refusal of a line, 0 and 0 for none.
use Rattle.std.specs.Prelude.{ℕ, Result, Ok, Err}
use Rattle.line.specs.declared.rules.Rule.{Rule}
use Rattle.line.specs.declared.rules.Rule.TheVariants as rule
use Rattle.line.specs.declared.rules.Broken.{Broken}

-- the code of the first rule that a line breaks, and the slot; 0, 0 where it breaks none
pub record Verdict : Type 0 where
  pub code : ℕ
  pub slot : ℕ

-- 01's code of each rule, and those of document 02, Notes 5 and 6
abbrev pub rule_code : Rule → ℕ
rule_code rule.Length = 2
rule_code rule.Fields = 3
rule_code rule.Positions = 4
rule_code rule.Units = 5
rule_code rule.Blocks = 6
rule_code rule.Registers = 7
rule_code rule.Access = 8
rule_code rule.Circular = 9
rule_code rule.Words = 10
rule_code rule.Order = 11
rule_code rule.Condition = 15
rule_code rule.Modifier = 16
rule_code rule.Aligned = 17

-- the answer of a check as 01's numbers
abbrev pub verdict_of : Result (Unit {0}) Broken → Verdict
verdict_of (Ok x) = record { code = 0; slot = 0 }
verdict_of (Err e) = record { code = rule_code e.rule; slot = e.slot }

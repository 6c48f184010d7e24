-- The rules of a log's text by their numbers.
use Rattle.std.specs.Prelude.{ℕ}
use Rattle.sj_log.specs.declared.refusal.LogRule.{LogRule}
use Rattle.sj_log.specs.declared.refusal.LogRule.TheVariants.{L1, L2, L3, L4}

-- 1: no form of a line; 2: a name that the file hasn't; 3: a wrong number; 4: no newline after the
-- line
abbrev pub rule_number : LogRule → ℕ
rule_number L1 = 1
rule_number L2 = 2
rule_number L3 = 3
rule_number L4 = 4

-- What breaks the grammar, by the rule that is reported.
use Rattle.std.specs.Prelude.{ℕ}
use Rattle.sj_grammar.specs.declared.tokens.Rule.{Rule}
use Rattle.sj_grammar.specs.declared.tokens.Rule.TheVariants.{P1, P2, P3, P4, P5}

-- no text of the grammar goes on with this token, or ends here
abbrev pub not_due : Rule
not_due = P1

-- a byte that may not stand there
abbrev pub bad_byte : Rule
bad_byte = P2

-- a number with a leading zero, or out of its range
abbrev pub bad_number : Rule
bad_number = P3

-- a token that passes a limit
abbrev pub over_limit : Rule
over_limit = P4

-- a text without its closing quote on its line
abbrev pub open_text : Rule
open_text = P5

-- the number by which an answer names a rule
abbrev pub rule_number : Rule → ℕ
rule_number P1 = 1
rule_number P2 = 2
rule_number P3 = 3
rule_number P4 = 4
rule_number P5 = 5

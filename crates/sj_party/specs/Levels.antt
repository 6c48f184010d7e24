-- What printers want of an expression, as a level of the grammar.
use Rattle.sj_grammar.specs.Expressions.{Level, whole, sum, term, factor}
use Rattle.sj_party.specs.declared.printing_expressions.Wanted.{Wanted}
use Rattle.sj_party.specs.declared.printing_expressions.Wanted.TheVariants as wanted

abbrev pub level_of : Wanted → Level
level_of wanted.Whole = whole
level_of wanted.Sum = sum
level_of wanted.Term = term
level_of wanted.Factor = factor

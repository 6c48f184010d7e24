use Rattle.std.proofs.Common.{◌≡◌, ◌+◌, ◌*◌, ◌-◌, ◌≤◌, ◌<◌, length}
use Rattle.sj_lang.specs.CodeView.{term_of}
use Rattle.sj_grammar.specs.Lexis.{next_of}
use Rattle.sj_grammar.specs.Asked.{Passes}
use Rattle.sj_grammar.specs.Expressions.{operand_count}
use Rattle.sj_grammar.specs.Expressions as level
use Rattle.sj_grammar.specs.ExpressionDues.{times, expression_layer}
use Rattle.sj_proto.specs.Onward.{Advances}
use Rattle.sj_proto.specs.Parsed.{standing}
use Rattle.sj_expr.specs.Read.{ReadsLevel, StaysWithin, Grows}
use Rattle.sj_expr.proofs.parse.+expression.Given as goal

abbrev pub decreases-factor : goal.decreases-factor
decreases-factor l = 8 * (32 - l.depth) + 1

abbrev pub decreases-term : goal.decreases-term
decreases-term l = 8 * (32 - l.depth) + 2

abbrev pub decreases-sum : goal.decreases-sum
decreases-sum l = 8 * (32 - l.depth) + 3

abbrev pub decreases-whole : goal.decreases-whole
decreases-whole l = 8 * (32 - l.depth) + 4

abbrev pub decreases-term-factors : goal.decreases-term-factors
decreases-term-factors l = length l.tokens.ahead

abbrev pub decreases-sum-terms : goal.decreases-sum-terms
decreases-sum-terms l = length l.tokens.ahead

abbrev pub invariant-term-factors : goal.invariant-term-factors
invariant-term-factors l = record {
  reads : ReadsLevel level.term l.depth (standing l.fn.tokens l.fn.names) (standing l.tokens l.names) (term_of l.left);
  count : l.count ≡ l.fn.count + operand_count (term_of l.left);
  few : l.count ≤ 256;
  room : StaysWithin l.fn.names l.fn.tokens l.names l.tokens;
  shorter : length l.tokens.ahead < length l.fn.tokens.ahead;
  kept : Grows l.fn.names l.names;
  onward : Advances l.fn.tokens l.tokens;
}

abbrev pub invariant-sum-terms : goal.invariant-sum-terms
invariant-sum-terms l = record {
  reads : ReadsLevel level.sum l.depth (standing l.fn.tokens l.fn.names) (standing l.tokens l.names) (term_of l.left);
  ends : Passes expression_layer (times l.depth) (next_of l.tokens.ahead);
  count : l.count ≡ l.fn.count + operand_count (term_of l.left);
  few : l.count ≤ 256;
  room : StaysWithin l.fn.names l.fn.tokens l.names l.tokens;
  shorter : length l.tokens.ahead < length l.fn.tokens.ahead;
  kept : Grows l.fn.names l.names;
  onward : Advances l.fn.tokens l.tokens;
}

use Rattle.std.proofs.Common.{◌+◌, ◌*◌, ◌-◌, ◌<◌, ◌≤◌, length}
use Rattle.std.specs.Prelude.{map}
use Rattle.sj_lang.specs.CodeView.{code_of, arm_of, branches_of}
use Rattle.sj_lang.specs.Limits.{limits}
use Rattle.sj_grammar.specs.Statements.{AreArms}
use Rattle.sj_proto.specs.Onward.{Advances}
use Rattle.sj_proto.specs.Parsed.{standing}
use Rattle.sj_expr.specs.Read.{Grows}
use Rattle.sj_party.specs.Read.{ReadsOnLines, ReadsCode, KeepsRoom}
use Rattle.sj_party.specs.Rooms.{Uses}
use Rattle.sj_party.specs.Parts.{AreSome}
use Rattle.sj_party.proofs.statements.+code.Given as goal

abbrev pub decreases-statements : goal.decreases-statements
decreases-statements l = 8 * (32 - l.depth) + 6

abbrev pub decreases-deed : goal.decreases-deed
decreases-deed l = 8 * (32 - l.depth) + 5

abbrev pub decreases-inbranch : goal.decreases-inbranch
decreases-inbranch l = 8 * (32 - l.depth) + 4

abbrev pub decreases-arms : goal.decreases-arms
decreases-arms l = 8 * (32 - l.depth) + 3

abbrev pub decreases-arm : goal.decreases-arm
decreases-arm l = 8 * (32 - l.depth) + 2

abbrev pub decreases-test : goal.decreases-test
decreases-test l = 8 * (32 - l.depth) + 2

abbrev pub decreases-block : goal.decreases-block
decreases-block l = 8 * (32 - l.depth) + 1

abbrev pub decreases-statements-all : goal.decreases-statements-all
decreases-statements-all l = length l.tokens.ahead

abbrev pub decreases-arms-all : goal.decreases-arms-all
decreases-arms-all l = length l.tokens.ahead

abbrev pub invariant-statements-all : goal.invariant-statements-all
invariant-statements-all l = record {
  reads : ReadsCode l.depth (standing l.fn.tokens l.fn.names) (standing l.tokens l.names) (code_of l.list.items);
  room : KeepsRoom l.fn.names l.fn.tokens l.names l.tokens;
  shorter : length l.tokens.ahead ≤ length l.fn.tokens.ahead;
  kept : Grows l.fn.names l.names;
  onward : Advances l.fn.tokens l.tokens;
}

abbrev pub invariant-arms-all : goal.invariant-arms-all
invariant-arms-all l = record {
  some : AreSome (branches_of (map arm_of l.list.items));
  reads : ReadsOnLines (standing l.fn.tokens l.fn.names) (standing l.tokens l.names) (λ names ps. AreArms limits names l.depth (branches_of (map arm_of l.list.items)) ps);
  room : Uses 0 0 l.fn.names l.fn.tokens l.names l.tokens;
  shorter : length l.tokens.ahead < length l.fn.tokens.ahead;
  kept : Grows l.fn.names l.names;
  onward : Advances l.fn.tokens l.tokens;
}

use Rattle.std.proofs.Common.{◌≤◌, length}
use Rattle.std.specs.Prelude.{map}
use Rattle.sj_lang.specs.FileView.{connect_of}
use Rattle.sj_proto.specs.Onward.{Advances}
use Rattle.sj_proto.specs.Parsed.{standing, Keeps, need}
use Rattle.sj_party.proofs.ConnectLemmas.{GivesConnects}
use Rattle.sj_party.proofs.connects.parse_connects.Given as goal

abbrev pub decreases-loop-list : goal.decreases-loop-list
decreases-loop-list l = length l.tokens.ahead

abbrev pub invariant-loop-list : goal.invariant-loop-list
invariant-loop-list l = record {
  reads : GivesConnects (standing l.fn.tokens l.fn.names) (standing l.tokens l.names) (map connect_of l.list.items);
  few : length l.list.items ≤ 64;
  room : need l.names.words l.tokens ≤ need l.fn.names.words l.fn.tokens;
  kept : Keeps l.fn.names l.names;
  onward : Advances l.fn.tokens l.tokens;
}

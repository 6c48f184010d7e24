use Rattle.std.proofs.Common.{◌≤◌, length}
use Rattle.std.specs.Prelude.{map}
use Rattle.sj_lang.specs.FileView.{party_of}
use Rattle.sj_proto.specs.Onward.{Advances}
use Rattle.sj_proto.specs.Parsed.{standing}
use Rattle.sj_party.specs.Read.{KeepsRoom}
use Rattle.sj_party.proofs.PartyLemmas.{ReadsParties}
use Rattle.sj_party.proofs.parties.parse_parties.Given as goal

abbrev pub decreases-loop-alloc : goal.decreases-loop-alloc
decreases-loop-alloc l = length l.tokens.ahead

abbrev pub invariant-loop-alloc : goal.invariant-loop-alloc
invariant-loop-alloc l = record {
  reads : ReadsParties (standing l.fn.tokens l.fn.names) (standing l.tokens l.names) (map party_of l.list.items);
  few : length l.list.items ≤ 16;
  room : KeepsRoom l.fn.names l.fn.tokens l.names l.tokens;
  onward : Advances l.fn.tokens l.tokens;
}

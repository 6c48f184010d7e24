use Rattle.std.proofs.Common.{map, arith}
use Rattle.std.proofs.lemmas.List.{length-map}
use Rattle.sj_lang.specs.FileView.{party_of}
use Rattle.sj_node.proofs.StartingLemmas.{party_named-le}
use Rattle.sj_node.proofs.starts.first_record.Goals as goal

pub overflow_cast-peer : goal.overflow_cast-peer
overflow_cast-peer c =
    omega (arith, c.requires, c.party_of_name-peer.ensures, length-map c.args.parties.now party_of, party_named-le (map party_of c.args.parties.now) c.args.other.party)

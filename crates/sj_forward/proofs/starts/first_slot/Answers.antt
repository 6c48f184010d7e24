use Rattle.std.proofs.Common.{map, arith}
use Rattle.std.proofs.lemmas.List.{length-map}
use Rattle.sj_lang.specs.FileView.{party_of}
use Rattle.sj_forward.proofs.StartLemmas.{named_within}
use Rattle.sj_forward.proofs.starts.first_slot.Goals as goal

pub overflow_cast-behind : goal.overflow_cast-behind
overflow_cast-behind c =
    omega (
      arith,
      c.requires,
      c.party_of_name-behind.ensures,
      length-map c.args.parties.now party_of,
      named_within (map party_of c.args.parties.now) c.args.other.party,
    )

use Rattle.std.proofs.Common.{◌≡◌, map, take}
use Rattle.sj_lang.specs.FileView.{party_of}
use Rattle.sj_seat_texts.proofs.copies.copied_parties.Given as goal

abbrev pub invariant-loop-party : goal.invariant-loop-party
invariant-loop-party l = map party_of l.out.items ≡ map party_of (take l.party-index l.parties)

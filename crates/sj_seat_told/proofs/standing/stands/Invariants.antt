use Rattle.sj_seat_told.proofs.StandLemmas.{AreFirstStands}
use Rattle.sj_seat_told.proofs.standing.stands.Given as goal

abbrev pub invariant-loop-party : goal.invariant-loop-party
invariant-loop-party l = AreFirstStands l.world l.party l.stands.items

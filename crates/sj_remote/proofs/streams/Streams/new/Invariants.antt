use Rattle.sj_remote.proofs.StreamLemmas.{Made}
use Rattle.sj_remote.proofs.streams.Streams.new.Given as goal

abbrev pub invariant-loop-party : goal.invariant-loop-party
invariant-loop-party l = Made l.run l.party l.keys.items l.seen.items

use Rattle.std.proofs.Common.{length}
use Rattle.sj_streams.specs.Gathering.{Took}
use Rattle.sj_streams.proofs.reply.Reply.gather.Given as goal

abbrev pub invariant-loop-self : goal.invariant-loop-self
invariant-loop-self l = Took l.fn.self l.self l.fn.decoder l.decoder

abbrev pub decreases-loop-self : goal.decreases-loop-self
decreases-loop-self l = length l.decoder

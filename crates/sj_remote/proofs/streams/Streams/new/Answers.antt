use Rattle.sj_remote.proofs.StreamLemmas.{made_next}
use Rattle.sj_remote.proofs.streams.Streams.new.Goals as goal

pub loop-party-preserved : goal.loop-party-preserved
loop-party-preserved c =
    made_next c.args.run.now c.loop-party.party c.loop-party.keys.items c.push.new.self.items c.loop-party.seen.items c.push-in-loop-party.new.self.items c.in_ok-log_key.field-0
    c.loop-party.invariant c.in_ok-log_key.ensures c.in_ok-push.ensures.items c.in_ok-push-2.ensures.items

use Rattle.sj_join.proofs.RangeLemmas.{next_text}
use Rattle.sj_streams.specs.Keys.{log_key_text}
use Rattle.sj_join.proofs.talk.keys_of.Goals as goal

pub loop-party-preserved : goal.loop-party-preserved
loop-party-preserved c =
    next_text (log_key_text c.args.run.now) c.loop-party.party c.loop-party.keys.items c.push.new.self.items c.in_ok-log_key.field-0
    c.loop-party.invariant c.in_ok-log_key.ensures c.in_ok-push.ensures.items

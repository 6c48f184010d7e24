use Rattle.sj_forward.proofs.ResultLemmas.{on_ok}
use Rattle.sj_forward.proofs.WorldLemmas.{drained_end, forwarded, parties_there}
use Rattle.sj_forward.proofs.forward.ForwardWorld.drain.Goals as goal

pub returns-clause-end : goal.returns-clause-end
returns-clause-end c =
    on_ok c.drain.result (drained_end c.self.inside.forwarder_world c.drain.new.self c.self.invariant c.drain.ensures.reached c.drain.ensures.file) c.drain.ensures.ok

pub returns-clause-run : goal.returns-clause-run
returns-clause-run c = forwarded c.drain.new.self c.drain.ensures.reached

pub returns-clause-parties : goal.returns-clause-parties
returns-clause-parties c = parties_there c.drain.new.self c.drain.ensures.reached

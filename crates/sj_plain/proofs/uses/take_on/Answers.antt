use Rattle.std.proofs.Common.{arith}
use Rattle.sj_semantics.specs.Uses.{end_after, on_side, takes}
use Rattle.sj_plain.specs.Stepping.{sessions_at}
use Rattle.sj_plain.proofs.ReachLemmas.{altered_once, taken_back}
use Rattle.sj_plain.proofs.uses.take_on.Goals as goal

pub returns-in-Err-clause-err : goal.returns-in-Err-clause-err
returns-in-Err-clause-err c =
    taken_back c.args.table.now c.args.sessions.now.items c.reach.new.sessions.items c.take_there.new.sessions.items c.truncate.new.self.items c.len-before.result (omega (arith, c.len-before.ensures)) c.truncate.ensures.items
    c.in_ok-reach.ensures.front c.in-Err.ensures.err

pub returns-clause-ok : goal.returns-clause-ok
returns-clause-ok c =
    altered_once (sessions_at c.args.table.now c.args.sessions.now.items) (sessions_at c.args.table.now c.reach.new.sessions.items) (sessions_at c.args.table.now c.take_there.new.sessions.items) c.args.end.sess (on_side c.args.end.side (end_after c.args.party (takes c.args.msg.now))) c.in_ok-reach.ensures.ok c.in_default.ensures.ok

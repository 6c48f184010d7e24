use Rattle.std.proofs.Common.{arith}
use Rattle.sj_semantics.specs.Uses.{begins, end_after, on_side, takes}
use Rattle.sj_plain.specs.Ends.{ahead_of}
use Rattle.sj_plain.specs.Stepping.{sessions_at}
use Rattle.sj_plain.proofs.ReachLemmas.{altered_twice, still_there, taken_back}
use Rattle.sj_plain.proofs.uses.take_end_on.Goals as goal

pub returns-in-Err-clause-err : goal.returns-in-Err-clause-err
returns-in-Err-clause-err c =
    taken_back c.args.table.now c.args.sessions.now.items c.reach_both.new.sessions.items c.take_there.new.sessions.items c.truncate.new.self.items c.len-before.result (omega (arith, c.len-before.ensures)) c.truncate.ensures.items
    c.in_ok-reach_both.ensures.front c.in-Err.ensures.err

pub begin-requires : goal.begin-requires
begin-requires c =
    still_there c.args.table.now c.reach_both.new.sessions.items c.take_there.new.sessions.items c.args.end.sess c.args.taken.sess (on_side c.args.end.side (end_after c.args.party (takes c.args.msg.now))) c.in_default.ensures.ok c.in_ok-reach_both.ensures.second

pub returns-clause-ok : goal.returns-clause-ok
returns-clause-ok c =
    altered_twice (sessions_at c.args.table.now c.args.sessions.now.items) (sessions_at c.args.table.now c.reach_both.new.sessions.items) (sessions_at c.args.table.now c.take_there.new.sessions.items) (sessions_at c.args.table.now c.begin.new.sessions.items) c.args.end.sess c.args.taken.sess
    (on_side c.args.end.side (end_after c.args.party (takes c.args.msg.now))) (on_side c.args.taken.side (end_after c.args.party (begins (ahead_of c.args.table.now c.args.place))))
    c.in_ok-reach_both.ensures.ok c.in_default.ensures.ok (c.begin.ensures.begun c.args.table.now c.args.party)

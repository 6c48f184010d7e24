use Rattle.std.proofs.Common.{arith}
use Rattle.sj_machine.proofs.FrameLemmas.{frame_there}
use Rattle.sj_machine.specs.Table.{vars_in}
use Rattle.sj_semantics.specs.Steps.{todo_after_sent, ends_after_sent}
use Rattle.sj_machine.proofs.StepLemmas.{step_todo, step_makes, step_fits, step_room}
use Rattle.sj_machine.proofs.steps.sent.Goals as goal

pub index-node-requires : goal.index-node-requires
index-node-requires c = let h = frame_there c.args.nodes.now.items c.args.stack.now.0 c.pop.new.self.0 c.in-Some.frame c.in-Some.ensures.some c.requires.fits in omega arith

pub leave-requires : goal.leave-requires
leave-requires c = step_room _ _ _ _ _ c.in-Some.ensures.some c.requires.back c.requires.fits c.index-node.ensures c.args.stack.now.1 c.pop.new.self.1 c.requires.room c.pop.ensures.room

pub returns-in-Some-clause-todo : goal.returns-in-Some-clause-todo
returns-in-Some-clause-todo c = step_todo _ _ _ _ _ c.in-Some.ensures.some c.requires.back c.requires.fits c.index-node.ensures c.leave.new.self.0 c.after_sent-after.result (todo_after_sent (vars_in c.args.vars.now)) c.leave.ensures.left (c.after_sent-after.ensures.todo _)

pub returns-in-Some-clause-ends : goal.returns-in-Some-clause-ends
returns-in-Some-clause-ends c = step_makes _ _ _ _ _ c.in-Some.ensures.some c.requires.back c.requires.fits c.index-node.ensures _ (ends_after_sent c.args.ends.now.items) (c.ends_sent.ensures.ends _ _)

pub returns-in-Some-clause-fits : goal.returns-in-Some-clause-fits
returns-in-Some-clause-fits c = step_fits _ _ _ _ _ c.in-Some.ensures.some c.requires.back c.requires.fits c.index-node.ensures c.leave.new.self.0 c.after_sent-after.result c.leave.ensures.left c.after_sent-after.ensures.below

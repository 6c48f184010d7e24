use Rattle.std.proofs.Common.{arith}
use Rattle.sj_machine.proofs.FrameLemmas.{frame_there}
use Rattle.sj_machine.specs.Table.{vars_in}
use Rattle.sj_semantics.specs.Steps.{todo_after_local, vars_after_local}
use Rattle.sj_machine.proofs.StepLemmas.{step_todo, step_makes, step_fits, step_room, step_binds}
use Rattle.sj_machine.proofs.steps.local.Goals as goal

pub index-node-requires : goal.index-node-requires
index-node-requires c = let h = frame_there c.args.nodes.now.items c.args.stack.now.0 c.pop.new.self.0 c.in-Some.frame c.in-Some.ensures.some c.requires.fits in omega arith

pub leave-requires : goal.leave-requires
leave-requires c = step_room _ _ _ _ _ c.in-Some.ensures.some c.requires.back c.requires.fits c.index-node.ensures c.args.stack.now.1 c.pop.new.self.1 c.requires.room c.pop.ensures.room

pub vars_local-requires : goal.vars_local-requires
vars_local-requires c = step_binds _ _ _ _ _ c.in-Some.ensures.some c.requires.back c.requires.fits c.index-node.ensures _ c.requires.named

pub returns-in-Some-clause-todo : goal.returns-in-Some-clause-todo
returns-in-Some-clause-todo c = step_todo _ _ _ _ _ c.in-Some.ensures.some c.requires.back c.requires.fits c.index-node.ensures c.leave.new.self.0 c.after_local-after.result (todo_after_local (vars_in c.args.vars.now)) c.leave.ensures.left (c.after_local-after.ensures.todo _ _)

pub returns-in-Some-clause-vars : goal.returns-in-Some-clause-vars
returns-in-Some-clause-vars c = step_makes _ _ _ _ _ c.in-Some.ensures.some c.requires.back c.requires.fits c.index-node.ensures _ (vars_after_local (vars_in c.args.vars.now)) (c.vars_local.ensures _ _)

pub returns-in-Some-clause-fits : goal.returns-in-Some-clause-fits
returns-in-Some-clause-fits c = step_fits _ _ _ _ _ c.in-Some.ensures.some c.requires.back c.requires.fits c.index-node.ensures c.leave.new.self.0 c.after_local-after.result c.leave.ensures.left c.after_local-after.ensures.below

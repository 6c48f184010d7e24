use Rattle.std.proofs.Common.{arith, None, refl}
use Rattle.sj_machine.proofs.FrameLemmas.{frame_there}
use Rattle.sj_machine.specs.Opens.{ends_after_opened}
use Rattle.sj_machine.specs.declared.stack.After.TheVariants.{Past}
use Rattle.sj_semantics.specs.Steps.{rest_of}
use Rattle.sj_machine.proofs.NameLemmas.{once_more, binds_more}
use Rattle.sj_machine.proofs.StepLemmas.{step_todo, step_makes, step_fits, step_room, step_binds}
use Rattle.sj_machine.proofs.steps.opened.Goals as goal

pub index-node-requires : goal.index-node-requires
index-node-requires c = let h = frame_there c.args.nodes.now.items c.args.stack.now.0 c.pop.new.self.0 c.in-Some.frame c.in-Some.ensures.some c.requires.fits in omega arith

pub leave-requires : goal.leave-requires
leave-requires c = step_room _ _ _ _ _ c.in-Some.ensures.some c.requires.back c.requires.fits c.index-node.ensures c.args.stack.now.1 c.pop.new.self.1 c.requires.room c.pop.ensures.room

pub ends_opened-requires-clause-once : goal.ends_opened-requires-clause-once
ends_opened-requires-clause-once c = once_more _ _ _ c.requires.ends_room c.requires.once

pub ends_opened-requires-clause-below : goal.ends_opened-requires-clause-below
ends_opened-requires-clause-below c = binds_more _ _ c.index-node.result.now.op c.requires.ends_room (step_binds _ _ _ _ _ c.in-Some.ensures.some c.requires.back c.requires.fits c.index-node.ensures _ c.requires.named)

pub returns-in-Some-clause-todo : goal.returns-in-Some-clause-todo
returns-in-Some-clause-todo c = step_todo _ _ _ _ _ c.in-Some.ensures.some c.requires.back c.requires.fits c.index-node.ensures c.leave.new.self.0 (Past None) rest_of c.leave.ensures.left (λ rest. refl)

pub returns-in-Some-clause-ends : goal.returns-in-Some-clause-ends
returns-in-Some-clause-ends c = step_makes _ _ _ _ _ c.in-Some.ensures.some c.requires.back c.requires.fits c.index-node.ensures _ (λ todo. ends_after_opened c.args.ends.now.items todo c.args.end) (c.ends_opened.ensures.ends _ _)

pub returns-in-Some-clause-fits : goal.returns-in-Some-clause-fits
returns-in-Some-clause-fits c = step_fits _ _ _ _ _ c.in-Some.ensures.some c.requires.back c.requires.fits c.index-node.ensures c.leave.new.self.0 (Past None) c.leave.ensures.left (λ k h. tt)

pub returns-in-Some-clause-once : goal.returns-in-Some-clause-once
returns-in-Some-clause-once c = c.ends_opened.ensures.once c.args.names c.requires.once (step_binds _ _ _ _ _ c.in-Some.ensures.some c.requires.back c.requires.fits c.index-node.ensures _ c.requires.named)

use Rattle.std.proofs.Common.{sym, subst, vec_capacity}
use Rattle.sj_machine.specs.Names.{AreNamedOnce, BindsBelow}
use Rattle.sj_machine.proofs.NameLemmas.{once_bound, room_for}
use Rattle.sj_machine.proofs.bindings.ends_took.Goals as goal

pub bind-requires : goal.bind-requires
bind-requires c = room_for (vec_capacity c.args.ends.now) c.in-TakeEnd.into c.args.ends.now.items c.requires.once (subst (BindsBelow (vec_capacity c.args.ends.now)) c.in-TakeEnd.is c.requires.below)

pub returns-in-Sess-clause-once : goal.returns-in-Sess-clause-once
returns-in-Sess-clause-once c = λ size h below. subst (AreNamedOnce size) (sym c.bind.ensures.items) (once_bound size c.in-TakeEnd.into _ c.args.ends.now.items h (subst (BindsBelow size) c.in-TakeEnd.is below))

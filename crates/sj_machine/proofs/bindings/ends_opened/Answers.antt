use Rattle.std.proofs.Common.{sym, subst, vec_capacity}
use Rattle.sj_machine.specs.Names.{AreNamedOnce, BindsBelow}
use Rattle.sj_machine.proofs.NameLemmas.{once_bound, room_for}
use Rattle.sj_machine.proofs.bindings.ends_opened.Goals as goal

pub bind-requires : goal.bind-requires
bind-requires c = room_for (vec_capacity c.args.ends.now) c.in-Request.name c.args.ends.now.items c.requires.once (subst (BindsBelow (vec_capacity c.args.ends.now)) c.in-Request.is c.requires.below)

pub bind-requires-in-Accept : goal.bind-requires-in-Accept
bind-requires-in-Accept c = room_for (vec_capacity c.args.ends.now) c.in-Accept.name c.args.ends.now.items c.requires.once (subst (BindsBelow (vec_capacity c.args.ends.now)) c.in-Accept.is c.requires.below)

pub returns-in-Request-clause-once : goal.returns-in-Request-clause-once
returns-in-Request-clause-once c = λ size h below. subst (AreNamedOnce size) (sym c.bind.ensures.items) (once_bound size c.in-Request.name _ c.args.ends.now.items h (subst (BindsBelow size) c.in-Request.is below))

pub returns-in-Accept-clause-once : goal.returns-in-Accept-clause-once
returns-in-Accept-clause-once c = λ size h below. subst (AreNamedOnce size) (sym c.bind-in-Accept.ensures.items) (once_bound size c.in-Accept.name _ c.args.ends.now.items h (subst (BindsBelow size) c.in-Accept.is below))

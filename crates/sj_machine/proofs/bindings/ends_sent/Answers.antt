use Rattle.std.proofs.Common.{sym, subst}
use Rattle.sj_machine.specs.Names.{AreNamedOnce}
use Rattle.sj_machine.proofs.NameLemmas.{once_without}
use Rattle.sj_machine.proofs.bindings.ends_sent.Goals as goal

pub returns-in-Delegate-clause-once : goal.returns-in-Delegate-clause-once
returns-in-Delegate-clause-once c = λ size h. subst (AreNamedOnce size) (sym c.unbind.ensures.items) (once_without size _ c.args.ends.now.items h)

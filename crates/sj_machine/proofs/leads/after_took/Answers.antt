use Rattle.std.proofs.Common.{sym, subst}
use Rattle.sj_machine.specs.Arena.{AreBelow, IsOpBelow}
use Rattle.sj_machine.proofs.leads.after_took.Goals as goal

pub returns-in-Branch-clause-below : goal.returns-in-Branch-clause-below
returns-in-Branch-clause-below c = λ k h. c.arm_for.ensures.below k (subst (AreBelow k) (sym c.deref.ensures.value) (subst (IsOpBelow k) c.in-Branch.is h))

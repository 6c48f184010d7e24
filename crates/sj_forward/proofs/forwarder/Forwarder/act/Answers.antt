use Rattle.std.proofs.Common.{None, subst, sym}
use Rattle.sj_semantics.specs.declared.Want.{Want}
use Rattle.sj_forward.specs.Forwarder.{Acts}
use Rattle.sj_forward.proofs.forwarder.Forwarder.act.Goals as goal

pub returns-in-Delegate : goal.returns-in-Delegate
returns-in-Delegate c =
    subst (λ (w : Want). Acts c.args.party w c.args.self.now c.delegate.new.self) (sym c.in-Delegate.is) (λ play ps g. c.delegate.ensures (play.goes g None))

pub returns-in-Close : goal.returns-in-Close
returns-in-Close c = subst (λ (w : Want). Acts c.args.party w c.args.self.now c.close.new.self) (sym c.in-Close.is) (λ play ps g. c.close.ensures (play.goes g None))

use Rattle.std.proofs.Common.{◌∙◌, Option, subst, sym}
use Rattle.std.specs.Prelude.{IfSome}
use Rattle.sj_work.specs.Views.{stop_of}
use Rattle.sj_work.specs.declared.worker.Stop.{Stop}
use Rattle.sj_seat.proofs.StopLemmas.{IsStoppedAt, none_kept, stopped_so}
use Rattle.sj_seat.proofs.guest.Guest.wait.Goals as goal

pub returns-clause-none : goal.returns-clause-none
returns-clause-none g c = λ is. none_kept (stop_of c.deliver.new.worker) c.deliver.result c.deliver.ensures.stop (sym c.for_good.ensures ∙ is)

pub returns-clause-some : goal.returns-clause-some
returns-clause-some g c =
    let b = c.deliver.new.worker in
    subst (λ (o : Option Stop). IfSome o (IsStoppedAt b)) (sym c.for_good.ensures) (stopped_so b c.deliver.result c.deliver.ensures.stop c.deliver.ensures.ended)

pub returns-clause-looked : goal.returns-clause-looked
returns-clause-looked g c = λ is. c.deliver.ensures.looked (sym c.for_good.ensures ∙ is)

use Rattle.std.proofs.Common.{subst, sym}
use Rattle.sj_forward.specs.declared.frame.ForwardFrame.{ForwardFrame}
use Rattle.sj_forward.specs.Forwarder.{FrameComes}
use Rattle.sj_forward.specs.Views.{frame_at}
use Rattle.sj_forward.proofs.ResultLemmas.{on_ok}
use Rattle.sj_forward.proofs.forwarder.Forwarder.deliver.Goals as goal

pub returns-in-Open-clause-ok : goal.returns-in-Open-clause-ok
returns-in-Open-clause-ok c =
    on_ok c.offered.result (λ comes. subst (λ (f : ForwardFrame). FrameComes c.args.from (frame_at f) c.args.self.now c.offered.new.self) (sym c.in-Open.is) comes) c.offered.ensures.ok

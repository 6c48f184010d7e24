use Rattle.std.proofs.Common.{◌+◌, List, subst, sym}
use Rattle.sj_lang.specs.FileView.{file_of}
use Rattle.sj_forward.specs.declared.forwarder.Forwarder.{Forwarder}
use Rattle.sj_forward.specs.Starting.{AreFirst}
use Rattle.sj_forward.proofs.StartLemmas.{one_forwarder}
use Rattle.sj_forward.proofs.starts.first_forwarders.Goals as goal

pub loop-party-preserved : goal.loop-party-preserved
loop-party-preserved c =
    let file = file_of c.args.file.now in
    subst (λ (forwarders : List Forwarder). AreFirst file (c.loop-party.party + 1) forwarders) (sym c.in_ok-push.ensures.items)
    (one_forwarder file c.loop-party.party c.loop-party.forwarders.items c.in_ok-forwarder.forwarder c.loop-party.invariant c.in_ok-forwarder.ensures)

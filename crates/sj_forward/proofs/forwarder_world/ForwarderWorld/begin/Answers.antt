use Rattle.std.proofs.Common.{length, refl, subst}
use Rattle.sj_acceptance.specs.Accepted.{IsAccepted}
use Rattle.sj_check.specs.Held.{file_in as held}
use Rattle.sj_lang.specs.declared.file.File.{File}
use Rattle.sj_lang.specs.FileView.{file_of}
use Rattle.sj_forward.specs.Starting.{AreFirst}
use Rattle.sj_forward.proofs.FirstLemmas.{reached_first, world_first}
use Rattle.sj_forward.proofs.forwarder_world.ForwarderWorld.begin.Goals as goal

pub first_forwarders-requires : goal.first_forwarders-requires
first_forwarders-requires c = c.file.ensures.accepted.within.parties

pub returns-clause-reached : goal.returns-clause-reached
returns-clause-reached c =
    let started = c.in_ok-plain.ensures in
    let accepted = subst (λ (f : File). IsAccepted (file_of f)) c.file.ensures.value c.file.ensures.accepted in
    let first = subst (λ (f : File). AreFirst (file_of f) (length (file_of f).parties) c.in_ok-forwarders.forwarders.items) c.file.ensures.value c.in_ok-forwarders.ensures in
    reached_first _ (file_of (held c.args.accepted.now)) accepted started.kept started.world started.acts started.run started.parties first refl refl

pub returns-clause-world : goal.returns-clause-world
returns-clause-world c =
    let started = c.in_ok-plain.ensures in
    let first = subst (λ (f : File). AreFirst (file_of f) (length (file_of f).parties) c.in_ok-forwarders.forwarders.items) c.file.ensures.value c.in_ok-forwarders.ensures in
    world_first (file_of (held c.args.accepted.now)) c.in_ok-plain.plain c.in_ok-forwarders.forwarders.items started.kept started.world first

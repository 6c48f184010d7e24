use Rattle.std.proofs.Common.{◌≡◌, ◌∙◌, Some, ap, map, slice_get, subst, sym}
use Rattle.sj_acceptance.specs.Accepted.{IsAccepted}
use Rattle.sj_lang.specs.FileAt.{FileAt}
use Rattle.sj_lang.specs.FileView.{connect_of, file_of, party_of, protocol_of}
use Rattle.sj_machine.specs.Sound.{program_at}
use Rattle.sj_semantics.specs.World.{start_of}
use Rattle.sj_node.specs.Starting.{idle_parties}
use Rattle.sj_node.proofs.IdleLemmas.{idle_is, idle_is_accepted, idle_program}
use Rattle.sj_node.proofs.StartingLemmas.{if_ok}
use Rattle.sj_node.proofs.starts.idle_machine.Goals as goal

pub start-requires-clause-accepted : goal.start-requires-clause-accepted
start-requires-clause-accepted c =
    let file = file_of c.args.file.now in
    let f : FileAt = file_of (record { names = c.new.result; protocols = c.new-2.result; parties = c.in_ok-idle_parties.field-0; connects = c.new-3.result }) in
    subst IsAccepted
    (sym (idle_is file f c.new.ensures.words c.new.ensures.texts (ap (map protocol_of) c.new-2.ensures.items) (c.in_ok-idle_parties.ensures ∙ ap (λ qs. idle_parties (map party_of qs)) c.deref.ensures.value)
    (ap (map connect_of) c.new-3.ensures.items)))
    (idle_is_accepted file c.requires.accepted)

pub returns : goal.returns
returns c =
    let file = file_of c.args.file.now in
    let f : FileAt = file_of (record { names = c.new.result; protocols = c.new-2.result; parties = c.in_ok-idle_parties.field-0; connects = c.new-3.result }) in
    let is = idle_is file f c.new.ensures.words c.new.ensures.texts (ap (map protocol_of) c.new-2.ensures.items) (c.in_ok-idle_parties.ensures ∙ ap (λ qs. idle_parties (map party_of qs)) c.deref.ensures.value) (ap (map connect_of) c.new-3.ensures.items) in
    if_ok c.start.result _ _
    (λ m h. idle_program file c.args.party (program_at m) c.requires.party (subst (λ (u : FileAt). slice_get (start_of u).parties c.args.party ≡ Some (program_at m)) is h))
    c.start.ensures

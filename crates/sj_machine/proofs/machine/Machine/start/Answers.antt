use Rattle.std.proofs.Common.{◌≡◌, ◌<◌, List, Some, refl, length, map, slice_get, arith, ap, sym, ◌∙◌, subst}
use Rattle.std.proofs.lemmas.List.{length-map}
use Rattle.std.proofs.lemmas.Option.{slice_get-map, slice_get_read}
use Rattle.std.specs.Option.{option_map}
use Rattle.sj_lang.specs.declared.file.Party.{Party}
use Rattle.sj_lang.specs.FileAt.{party_names}
use Rattle.sj_lang.specs.FileView.{file_of, party_of}
use Rattle.sj_semantics.proofs.StartLemmas.{program_at_start}
use Rattle.sj_machine.specs.Names.{NamesDiffer}
use Rattle.sj_machine.specs.Sound.{first_program}
use Rattle.sj_machine.proofs.OnceLemmas.{connected_differ}
use Rattle.sj_machine.proofs.machine.Machine.start.Goals as goal

pub over-requires-clause-differ : goal.over-requires-clause-differ
over-requires-clause-differ c = subst NamesDiffer (sym (c.deref-3.ensures.value ∙ c.in_ok-connected.ensures)) (connected_differ (file_of c.args.file.now) c.args.party c.requires.accepted)

pub over-requires-clause-few : goal.over-requires-clause-few
over-requires-clause-few c =
    let parties = (file_of c.args.file.now).parties in
    let all : length c.in_ok-peers.peers.items ≡ length (party_names parties) = ap length (c.in_ok-peers.ensures ∙ ap (λ (t : List Party). party_names (map party_of t)) c.deref.ensures.value) in
    omega (arith, all, length-map parties (λ p. p.name), c.requires.accepted.within.parties)

pub returns : goal.returns
returns c =
    let parties : List Party = c.args.file.now.parties.items in
    let q : Party = c.index.result.now in
    let within : c.args.party < length parties = omega (arith, length-map parties party_of, c.requires.party) in
    let there : slice_get (map party_of parties) c.args.party ≡ Some (party_of q) =
    slice_get-map party_of parties c.args.party ∙ ap (option_map party_of) (slice_get_read parties (length parties) c.args.party q refl within c.index.ensures) in
    program_at_start (file_of c.args.file.now) c.args.party (party_of q) there
    ∙ sym (ap Some (c.in_ok-machine.ensures ∙ (λ i. first_program (c.deref-2.ensures.value i) ((c.deref-3.ensures.value ∙ c.in_ok-connected.ensures) i) ((c.in_ok-peers.ensures ∙ ap (λ (t : List Party). party_names (map party_of t)) c.deref.ensures.value) i))))

use Rattle.std.proofs.Common.{◌∙◌, ap, arith, map}
use Rattle.std.proofs.lemmas.List.{length-map, take_all}
use Rattle.sj_lang.specs.FileView.{file_of, party_of}
use Rattle.sj_machine.specs.Sound.{program_at}
use Rattle.sj_semantics.specs.World.{start_of}
use Rattle.sj_plain.proofs.BeginLemmas.{length-start, seen_next}
use Rattle.sj_plain.proofs.course.first_machines.Goals as goal

pub loop-party-preserved : goal.loop-party-preserved
loop-party-preserved c =
    ap (map program_at) c.in_ok-push.ensures.items
    ∙ seen_next program_at (start_of (file_of c.args.file.now)).parties c.loop-party.machines.items c.loop-party.party c.in_ok-start.field-0 c.in_ok-start.ensures c.loop-party.invariant

pub returns : goal.returns
returns c =
    c.loop-party.invariant
    ∙ take_all c.loop-party.party (start_of (file_of c.args.file.now)).parties (omega (arith, length-start (file_of c.args.file.now), length-map c.args.file.now.parties.items party_of))

use Rattle.std.proofs.Common.{◌<◌, ◌++◌, ◌+◌, ◌∙◌, arith, drop, length, map, refl, sym}
use Rattle.sj_lang.specs.FileView.{file_of, party_of}
use Rattle.sj_plain.specs.Plain.{world_at}
use Rattle.sj_print.proofs.PartLemmas.{length-map}
use Rattle.sj_semantics.specs.Transcript.{party_lines}
use Rattle.sj_join.specs.Places.{told_line}
use Rattle.sj_join.proofs.NowLemmas.{more_text, told_end, told_step}
use Rattle.sj_join.proofs.now.put_old.Goals as goal

pub loop-i-preserved : goal.loop-i-preserved
loop-i-preserved c =
    let file = file_of c.args.file.now in
    let w = world_at c.args.plain.now in
    let qs = c.args.file.now.parties.items in
    let i = c.loop-i.i in
    let within : i < length qs = omega (arith, c.loop-i-test.true, c.len-i-end.ensures, c.args.file.now.parties.ok.0) in
    more_text (c.args.text.now.items ++ party_lines file w 0 file.parties w.parties) c.loop-i.text.items (party_lines file w i (drop i (map party_of qs)) (drop i w.parties))
    (told_line file i c.steps.result c.state.result) (party_lines file w (i + 1) (drop (i + 1) (map party_of qs)) (drop (i + 1) w.parties)) c.put_told.new.text.items c.loop-i.invariant
    (told_step file w qs w.parties i c.steps.result c.state.result refl within (omega (arith, within, c.requires.all, length-map party_of qs)) c.steps.ensures c.state.ensures) c.in_ok-put_told.ensures

pub returns : goal.returns
returns c =
    let file = file_of c.args.file.now in
    let w = world_at c.args.plain.now in
    let qs = c.args.file.now.parties.items in
    let i = c.loop-i.i in
    sym (c.loop-i.invariant ∙ told_end file w (map party_of qs) (drop i w.parties) i c.loop-i.text.items (omega (arith, c.loop-i-test.false, c.len-i-end.ensures, c.args.file.now.parties.ok.0, length-map party_of qs)))

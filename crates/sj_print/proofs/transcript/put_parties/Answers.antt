use Rattle.std.proofs.Common.{◌≡◌, ◌++◌, ◌+◌, ◌<◌, ◌∙◌, ap, arith, drop, get_or, length, map}
use Rattle.std.proofs.lemmas.Grind.{common_steps}
use Rattle.sj_lang.specs.FileView.{file_of, party_of}
use Rattle.sj_plain.specs.Plain.{world_at}
use Rattle.sj_semantics.specs.Transcript.{party_lines}
use Rattle.sj_print.specs.Parts.{party_part}
use Rattle.sj_text.proofs.CutLemmas.{ahead_is, one_more, cut_within, on_err}
use Rattle.sj_print.proofs.PartLemmas.{length-map, party_step}
use Rattle.sj_print.proofs.transcript.put_parties.Goals as goal

pub returns-in_err-put_party-clause-err : goal.returns-in_err-put_party-clause-err
returns-in_err-put_party-clause-err c =
    let file = file_of c.args.file.now in let w = world_at c.args.plain.now in let qs = c.args.file.now.parties.items in
    let i = c.loop-i.i in let x = c.index.result.now in let old = c.args.text.now.items in let whole = party_lines file w 0 file.parties w.parties in
    let within : i < length qs = omega (arith, c.loop-i-test.true, c.len-i-end.ensures, c.args.file.now.parties.ok.0) in
    let there : get_or qs i x ≡ x = grind (arith, common_steps) in
    let behind = party_lines file w (i + 1) (drop (i + 1) (map party_of qs)) (drop (i + 1) w.parties) in
    let step = party_step file w qs w.parties i x c.steps.result c.state.result within (omega (arith, within, c.requires.all, length-map party_of qs)) c.steps.ensures c.state.ensures
    ∙ ap (λ y. party_part file y.name c.steps.result c.state.result ++ behind) there in
    let before = ahead_is old whole _ _ c.loop-i.text.items step c.loop-i.invariant in
    on_err c.from_residual.result _ (cut_within old whole _ behind c.loop-i.text.items c.put_party.new.text.items before c.in_err-put_party.ensures.err)

pub loop-i-preserved : goal.loop-i-preserved
loop-i-preserved c =
    let file = file_of c.args.file.now in let w = world_at c.args.plain.now in let qs = c.args.file.now.parties.items in
    let i = c.loop-i.i in let x = c.index.result.now in let old = c.args.text.now.items in let whole = party_lines file w 0 file.parties w.parties in
    let within : i < length qs = omega (arith, c.loop-i-test.true, c.len-i-end.ensures, c.args.file.now.parties.ok.0) in
    let there : get_or qs i x ≡ x = grind (arith, common_steps) in
    let behind = party_lines file w (i + 1) (drop (i + 1) (map party_of qs)) (drop (i + 1) w.parties) in
    let step = party_step file w qs w.parties i x c.steps.result c.state.result within (omega (arith, within, c.requires.all, length-map party_of qs)) c.steps.ensures c.state.ensures
    ∙ ap (λ y. party_part file y.name c.steps.result c.state.result ++ behind) there in
    let before = ahead_is old whole _ _ c.loop-i.text.items step c.loop-i.invariant in
    one_more old whole _ behind c.loop-i.text.items c.put_party.new.text.items before c.in_ok-put_party.ensures.ok

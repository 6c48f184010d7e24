use Rattle.std.proofs.Common.{◌≡◌, ◌++◌, ◌+◌, ◌<◌, ◌∙◌, ap, arith, drop, get_or, length, map}
use Rattle.std.proofs.lemmas.Grind.{common_steps}
use Rattle.sj_lang.specs.FileView.{file_of, connect_of}
use Rattle.sj_plain.specs.Plain.{world_at}
use Rattle.sj_semantics.specs.Transcript.{session_lines}
use Rattle.sj_print.specs.Parts.{session_part}
use Rattle.sj_text.proofs.CutLemmas.{ahead_is, one_more, cut_within, on_err}
use Rattle.sj_print.proofs.PartLemmas.{length-map, session_step}
use Rattle.sj_print.proofs.transcript.put_sessions.Goals as goal

pub returns-in_err-put_session_part-clause-err : goal.returns-in_err-put_session_part-clause-err
returns-in_err-put_session_part-clause-err c =
    let file = file_of c.args.file.now in let zs = (world_at c.args.plain.now).sessions in let cs = c.args.file.now.connects.items in
    let i = c.loop-i.i in let x = c.index.result.now in let old = c.args.text.now.items in let whole = session_lines file 0 file.connects zs in
    let within : i < length cs = omega (arith, c.loop-i-test.true, c.len-i-end.ensures, c.args.file.now.connects.ok.0) in
    let there : get_or cs i x ≡ x = grind (arith, common_steps) in
    let behind = session_lines file (i + 1) (drop (i + 1) (map connect_of cs)) (drop (i + 1) zs) in
    let step = session_step file cs zs i x within (omega (arith, within, c.requires.all, length-map connect_of cs)) ∙ ap (λ y. session_part file zs i (connect_of y) ++ behind) there in
    let before = ahead_is old whole _ _ c.loop-i.text.items step c.loop-i.invariant in
    on_err c.from_residual.result _ (cut_within old whole _ behind c.loop-i.text.items c.put_session_part.new.text.items before c.in_err-put_session_part.ensures.err)

pub loop-i-preserved : goal.loop-i-preserved
loop-i-preserved c =
    let file = file_of c.args.file.now in let zs = (world_at c.args.plain.now).sessions in let cs = c.args.file.now.connects.items in
    let i = c.loop-i.i in let x = c.index.result.now in let old = c.args.text.now.items in let whole = session_lines file 0 file.connects zs in
    let within : i < length cs = omega (arith, c.loop-i-test.true, c.len-i-end.ensures, c.args.file.now.connects.ok.0) in
    let there : get_or cs i x ≡ x = grind (arith, common_steps) in
    let behind = session_lines file (i + 1) (drop (i + 1) (map connect_of cs)) (drop (i + 1) zs) in
    let step = session_step file cs zs i x within (omega (arith, within, c.requires.all, length-map connect_of cs)) ∙ ap (λ y. session_part file zs i (connect_of y) ++ behind) there in
    let before = ahead_is old whole _ _ c.loop-i.text.items step c.loop-i.invariant in
    one_more old whole _ behind c.loop-i.text.items c.put_session_part.new.text.items before c.in_ok-put_session_part.ensures.ok

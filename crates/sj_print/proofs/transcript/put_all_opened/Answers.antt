use Rattle.std.proofs.Common.{◌+◌, drop}
use Rattle.sj_lang.specs.FileView.{file_of}
use Rattle.sj_plain.specs.Plain.{world_at}
use Rattle.sj_semantics.specs.Transcript.{opened_lines}
use Rattle.sj_text.proofs.CutLemmas.{ahead_is, one_more, cut_within, on_err}
use Rattle.sj_print.proofs.PartLemmas.{opened_step}
use Rattle.sj_print.proofs.transcript.put_all_opened.Goals as goal

pub returns-in_err-put_opened_part-clause-err : goal.returns-in_err-put_opened_part-clause-err
returns-in_err-put_opened_part-clause-err c =
    let file = file_of c.args.file.now in let zs = (world_at c.args.plain.now).sessions in let os = c.args.all.now in let i = c.loop-opened.opened-index in
    let old = c.args.text.now.items in let whole = opened_lines file zs os in let behind = opened_lines file zs (drop (i + 1) os) in
    let before = ahead_is old whole _ _ c.loop-opened.text.items (opened_step file zs os i _ c.loop-opened-test.true) c.loop-opened.invariant in
    on_err c.from_residual.result _ (cut_within old whole _ behind c.loop-opened.text.items c.put_opened_part.new.text.items before c.in_err-put_opened_part.ensures.err)

pub loop-opened-preserved : goal.loop-opened-preserved
loop-opened-preserved c =
    let file = file_of c.args.file.now in let zs = (world_at c.args.plain.now).sessions in let os = c.args.all.now in let i = c.loop-opened.opened-index in
    let old = c.args.text.now.items in let whole = opened_lines file zs os in let behind = opened_lines file zs (drop (i + 1) os) in
    let before = ahead_is old whole _ _ c.loop-opened.text.items (opened_step file zs os i _ c.loop-opened-test.true) c.loop-opened.invariant in
    one_more old whole _ behind c.loop-opened.text.items c.put_opened_part.new.text.items before c.in_ok-put_opened_part.ensures.ok

use Rattle.std.proofs.Common.{◌++◌, ◌∙◌, ap}
use Rattle.sj_lang.specs.FileView.{file_of}
use Rattle.sj_semantics.specs.Transcript.{opened_line}
use Rattle.sj_text.proofs.CutLemmas.{cut_in_first, cut_behind, whole_is, on_err, put_both, err_behind, err_whole}
use Rattle.sj_print.proofs.PartLemmas.{sent_same}
use Rattle.sj_print.proofs.transcript.put_opened_part.Goals as goal

pub returns-in_err-put_opened-clause-err : goal.returns-in_err-put_opened-clause-err
returns-in_err-put_opened-clause-err c =
    on_err c.from_residual.result _ (cut_in_first c.args.text.now.items _ _ c.put_opened.new.text.items
    (cut_in_first c.args.text.now.items _ _ c.put_opened.new.text.items c.in_err-put_opened.ensures.err))

pub returns-in_err-put_sent-clause-err : goal.returns-in_err-put_sent-clause-err
returns-in_err-put_sent-clause-err c =
    let file = file_of c.args.file.now in let s = c.args.opened.now.sess in let old = c.args.text.now.items in
    let mid = c.put_opened.new.text.items in let new = c.put_sent.new.text.items in
    let same = sent_same file s 0 c.sent.ensures c.takers.ensures in
    on_err c.from_residual-in_err-put_sent.result _ (cut_in_first old _ _ new
    (cut_behind old (opened_line file c.args.opened.now) _ mid new c.in_ok-put_opened.ensures.ok (whole_is mid _ _ new same c.in_err-put_sent.ensures.err)))

pub returns-clause-err : goal.returns-clause-err
returns-clause-err c =
    let file = file_of c.args.file.now in let s = c.args.opened.now.sess in let old = c.args.text.now.items in
    let mid = c.put_opened.new.text.items in let next = c.put_sent.new.text.items in let new = c.put_sent-2.new.text.items in
    let line = opened_line file c.args.opened.now in
    let first = sent_same file s 0 c.sent.ensures c.takers.ensures in
    let second = sent_same file s 1 c.sent-2.ensures c.takers-2.ensures in
    err_behind old _ _ next new c.put_sent-2.result
    (put_both old line _ mid next c.in_ok-put_opened.ensures.ok (c.in_ok-put_sent.ensures.ok ∙ ap (λ xs. mid ++ xs) first))
    (err_whole next _ _ new c.put_sent-2.result second c.put_sent-2.ensures.err)

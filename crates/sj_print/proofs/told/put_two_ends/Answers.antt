use Rattle.std.proofs.Common.{◌++◌, ◌∙◌, ap}
use Rattle.sj_lang.specs.FileView.{file_of, connect_of}
use Rattle.sj_semantics.specs.Transcript.{session_line}
use Rattle.sj_text.proofs.CutLemmas.{cut_in_first, cut_behind, err_behind, err_whole, ok_behind, ok_whole, on_err, put_both, whole_is}
use Rattle.sj_print.proofs.PartLemmas.{sent_same}
use Rattle.sj_print.proofs.told.put_two_ends.Goals as goal

pub returns-in_err-put_session-clause-err : goal.returns-in_err-put_session-clause-err
returns-in_err-put_session-clause-err c =
    let old = c.args.text.now.items in let new = c.put_session.new.text.items in
    on_err c.from_residual.result _ (cut_in_first old _ _ new (cut_in_first old _ _ new c.in_err-put_session.ensures.err))

pub returns-in_err-put_sent-clause-err : goal.returns-in_err-put_sent-clause-err
returns-in_err-put_sent-clause-err c =
    let file = file_of c.args.file.now in let line = session_line file c.args.sess (connect_of c.args.connect.now) in
    let old = c.args.text.now.items in let mid = c.put_session.new.text.items in let new = c.put_sent.new.text.items in
    let same = sent_same file c.args.sess 0 c.deref.ensures.value c.deref-2.ensures.value in
    on_err c.from_residual-in_err-put_sent.result _
    (cut_in_first old _ _ new (cut_behind old line _ mid new c.in_ok-put_session.ensures.ok (whole_is mid _ _ new same c.in_err-put_sent.ensures.err)))

pub returns-clause-ok : goal.returns-clause-ok
returns-clause-ok c =
    let file = file_of c.args.file.now in let line = session_line file c.args.sess (connect_of c.args.connect.now) in
    let old = c.args.text.now.items in let mid = c.put_session.new.text.items in let next = c.put_sent.new.text.items in let new = c.put_sent-2.new.text.items in
    let first = sent_same file c.args.sess 0 c.deref.ensures.value c.deref-2.ensures.value in
    let second = sent_same file c.args.sess 1 c.deref-3.ensures.value c.deref-4.ensures.value in
    ok_behind old _ _ next new c.put_sent-2.result
    (put_both old line _ mid next c.in_ok-put_session.ensures.ok (c.in_ok-put_sent.ensures.ok ∙ ap (λ xs. mid ++ xs) first))
    (ok_whole next _ _ new c.put_sent-2.result second c.put_sent-2.ensures.ok)

pub returns-clause-err : goal.returns-clause-err
returns-clause-err c =
    let file = file_of c.args.file.now in let line = session_line file c.args.sess (connect_of c.args.connect.now) in
    let old = c.args.text.now.items in let mid = c.put_session.new.text.items in let next = c.put_sent.new.text.items in let new = c.put_sent-2.new.text.items in
    let first = sent_same file c.args.sess 0 c.deref.ensures.value c.deref-2.ensures.value in
    let second = sent_same file c.args.sess 1 c.deref-3.ensures.value c.deref-4.ensures.value in
    err_behind old _ _ next new c.put_sent-2.result
    (put_both old line _ mid next c.in_ok-put_session.ensures.ok (c.in_ok-put_sent.ensures.ok ∙ ap (λ xs. mid ++ xs) first))
    (err_whole next _ _ new c.put_sent-2.result second c.put_sent-2.ensures.err)

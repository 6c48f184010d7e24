use Rattle.std.proofs.Common.{◌+◌, drop}
use Rattle.sj_lang.specs.FileView.{file_of}
use Rattle.sj_semantics.specs.Transcript.{sent_lines}
use Rattle.sj_text.proofs.CutLemmas.{ahead_is, one_more, cut_within, on_err}
use Rattle.sj_print.proofs.LineLemmas.{sent_step}
use Rattle.sj_print.proofs.lines.put_sent.Goals as goal

pub returns-in_err-put_passed-clause-err : goal.returns-in_err-put_passed-clause-err
returns-in_err-put_passed-clause-err c =
    let file = file_of c.args.file.now in let s = c.args.end.sess in let d = c.args.end.side in
    let sent = c.args.sent.now in let takers = c.args.takers.now in let i = c.loop-i.i in
    let old = c.args.text.now.items in let whole = sent_lines file s d 0 sent takers in
    let behind = sent_lines file s d (i + 1) (drop (i + 1) sent) (drop (i + 1) takers) in
    let before = ahead_is old whole _ _ c.loop-i.text.items (sent_step file s d sent takers i _ c.taker_of.result c.loop-i-test.true c.taker_of.ensures) c.loop-i.invariant in
    on_err c.from_residual.result _ (cut_within old whole _ behind c.loop-i.text.items c.put_passed.new.text.items before c.in_err-put_passed.ensures.err)

pub loop-i-preserved : goal.loop-i-preserved
loop-i-preserved c =
    let file = file_of c.args.file.now in let s = c.args.end.sess in let d = c.args.end.side in
    let sent = c.args.sent.now in let takers = c.args.takers.now in let i = c.loop-i.i in
    let old = c.args.text.now.items in let whole = sent_lines file s d 0 sent takers in
    let behind = sent_lines file s d (i + 1) (drop (i + 1) sent) (drop (i + 1) takers) in
    let before = ahead_is old whole _ _ c.loop-i.text.items (sent_step file s d sent takers i _ c.taker_of.result c.loop-i-test.true c.taker_of.ensures) c.loop-i.invariant in
    one_more old whole _ behind c.loop-i.text.items c.put_passed.new.text.items before c.in_ok-put_passed.ensures.ok

use Rattle.std.proofs.Common.{◌+◌, drop}
use Rattle.std.proofs.lemmas.List.{at_drop_more}
use Rattle.sj_lang.specs.FileView.{file_of}
use Rattle.sj_text.proofs.CutLemmas.{ahead_is, cut_within, on_err, one_more}
use Rattle.sj_seat_told.specs.Opened.{told_sessions_lines}
use Rattle.sj_seat_told.proofs.openings.put_opened.Goals as goal

pub returns-in_err-put_session-clause-err : goal.returns-in_err-put_session-clause-err
returns-in_err-put_session-clause-err c =
    let file = file_of c.args.file.now in let ends = c.args.ends.now in let os = c.args.opened.now in let i = c.loop-session.session-index in
    let old = c.args.text.now.items in let whole = told_sessions_lines file ends os in let behind = told_sessions_lines file ends (drop (i + 1) os) in
    let before = ahead_is old whole _ _ c.loop-session.text.items (at_drop_more (told_sessions_lines file ends) os i _ c.loop-session-test.true) c.loop-session.invariant in
    on_err c.from_residual.result _ (cut_within old whole _ behind c.loop-session.text.items c.put_session.new.text.items before c.in_err-put_session.ensures.err)

pub loop-session-preserved : goal.loop-session-preserved
loop-session-preserved c =
    let file = file_of c.args.file.now in let ends = c.args.ends.now in let os = c.args.opened.now in let i = c.loop-session.session-index in
    let old = c.args.text.now.items in let whole = told_sessions_lines file ends os in let behind = told_sessions_lines file ends (drop (i + 1) os) in
    let before = ahead_is old whole _ _ c.loop-session.text.items (at_drop_more (told_sessions_lines file ends) os i _ c.loop-session-test.true) c.loop-session.invariant in
    one_more old whole _ behind c.loop-session.text.items c.put_session.new.text.items before c.in_ok-put_session.ensures.ok

use Rattle.std.proofs.Common.{◌++◌}
use Rattle.sj_lang.specs.FileView.{file_of}
use Rattle.sj_seat_told.specs.Opened.{told_end_lines}
use Rattle.sj_seat_told_laws.specs.SeatsOpened.{opened_ends_line}
use Rattle.sj_text.proofs.CutLemmas.{cut_behind, cut_in_first, err_behind, on_err, put_both}
use Rattle.sj_seat_told.proofs.openings.put_session.Goals as goal

pub returns-in_err-put_opened_line-clause-err : goal.returns-in_err-put_opened_line-clause-err
returns-in_err-put_opened_line-clause-err c =
    let file = file_of c.args.file.now in let ends = c.args.ends.now in let o = c.args.session.now in
    let old = c.args.text.now.items in let new = c.put_opened_line.new.text.items in
    let line = opened_ends_line file o in
    let first = told_end_lines file ends (record { sess = o.sess; side = 0 }) in let second = told_end_lines file ends (record { sess = o.sess; side = 1 }) in
    on_err c.from_residual.result _ (cut_in_first old (line ++ first) second new (cut_in_first old line first new c.in_err-put_opened_line.ensures.err))

pub returns-in_err-put_end-clause-err : goal.returns-in_err-put_end-clause-err
returns-in_err-put_end-clause-err c =
    let file = file_of c.args.file.now in let ends = c.args.ends.now in let o = c.args.session.now in
    let old = c.args.text.now.items in let mid = c.put_opened_line.new.text.items in let new = c.put_end.new.text.items in
    let line = opened_ends_line file o in
    let first = told_end_lines file ends (record { sess = o.sess; side = 0 }) in let second = told_end_lines file ends (record { sess = o.sess; side = 1 }) in
    on_err c.from_residual-in_err-put_end.result _ (cut_in_first old (line ++ first) second new (cut_behind old line first mid new c.in_ok-put_opened_line.ensures.ok c.in_err-put_end.ensures.err))

pub returns-clause-err : goal.returns-clause-err
returns-clause-err c =
    let file = file_of c.args.file.now in let ends = c.args.ends.now in let o = c.args.session.now in
    let old = c.args.text.now.items in let mid = c.put_opened_line.new.text.items in let next = c.put_end.new.text.items in let new = c.put_end-2.new.text.items in
    let line = opened_ends_line file o in
    let first = told_end_lines file ends (record { sess = o.sess; side = 0 }) in let second = told_end_lines file ends (record { sess = o.sess; side = 1 }) in
    err_behind old (line ++ first) second next new c.put_end-2.result (put_both old line first mid next c.in_ok-put_opened_line.ensures.ok c.in_ok-put_end.ensures.ok) c.put_end-2.ensures.err

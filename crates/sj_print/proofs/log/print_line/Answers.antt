use Rattle.sj_lang.specs.FileView.{file_of}
use Rattle.sj_semantics.specs.Lines.{line_of}
use Rattle.sj_print.specs.LogLine.{head_words, note_words}
use Rattle.sj_print.specs.Pieces.{closed_words}
use Rattle.sj_end.specs.Lines.{line_at}
use Rattle.sj_text.proofs.CutLemmas.{cut_in_first, whole_is, on_err, ok_behind, err_behind, ok_whole, err_whole}
use Rattle.sj_print.proofs.WordLemmas.{note_behind}
use Rattle.sj_print.proofs.log.print_line.Goals as goal

pub returns-in_err-put_head-clause-err : goal.returns-in_err-put_head-clause-err
returns-in_err-put_head-clause-err c =
    let file = file_of c.args.file.now in let line = line_at c.args.line.now in let ws = head_words file line in let rest = line_of (note_words file line.entry.note) in
    let old = c.args.text.now.items in let new = c.put_head.new.text.items in
    on_err c.from_residual.result _ (whole_is old _ _ new (note_behind ws file line.entry.note) (cut_in_first old (closed_words ws) rest new c.in_err-put_head.ensures.err))

pub returns-clause-ok : goal.returns-clause-ok
returns-clause-ok c =
    let file = file_of c.args.file.now in let line = line_at c.args.line.now in let ws = head_words file line in let rest = line_of (note_words file line.entry.note) in
    let old = c.args.text.now.items in let mid = c.put_head.new.text.items in let new = c.put_note.new.text.items in
    ok_whole old _ _ new c.put_note.result (note_behind ws file line.entry.note)
    (ok_behind old (closed_words ws) rest mid new c.put_note.result c.in_ok-put_head.ensures.ok c.put_note.ensures.ok)

pub returns-clause-err : goal.returns-clause-err
returns-clause-err c =
    let file = file_of c.args.file.now in let line = line_at c.args.line.now in let ws = head_words file line in let rest = line_of (note_words file line.entry.note) in
    let old = c.args.text.now.items in let mid = c.put_head.new.text.items in let new = c.put_note.new.text.items in
    err_whole old _ _ new c.put_note.result (note_behind ws file line.entry.note)
    (err_behind old (closed_words ws) rest mid new c.put_note.result c.in_ok-put_head.ensures.ok c.put_note.ensures.err)

use Rattle.std.proofs.Common.{[], ◌∷◌, ◌++◌, ap}
use Rattle.sj_lang.specs.FileView.{file_of}
use Rattle.sj_print.specs.Parts.{stand_lines}
use Rattle.sj_seat_told.specs.Opened.{told_sessions_lines}
use Rattle.sj_semantics.specs.Transcript.{line_of, verdict_word}
use Rattle.sj_semantics.specs.declared.Verdict.{Verdict}
use Rattle.sj_text.proofs.CutLemmas.{err_behind, err_whole, put_both}
use Rattle.sj_seat_told.proofs.told.put_rest.Goals as goal

pub returns-clause-err : goal.returns-clause-err
returns-clause-err c =
    let file = file_of c.args.file.now in let old = c.args.text.now.items in
    let mid = c.put_opened.new.text.items in let next = c.put_stands.new.text.items in let new = c.print_verdict.new.text.items in
    let first = told_sessions_lines file c.args.ends.now c.args.opened.now in let second = stand_lines file c.args.stands.now in
    err_behind old (first ++ second) _ next new c.print_verdict.result (put_both old first second mid next c.in_ok-put_opened.ensures.ok c.in_ok-put_stands.ensures.ok)
    (err_whole next _ _ new c.print_verdict.result (ap (λ (v : Verdict). line_of (verdict_word v ∷ [])) c.verdict.ensures.seen) c.print_verdict.ensures.err)

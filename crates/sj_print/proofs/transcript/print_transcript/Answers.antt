use Rattle.std.proofs.Common.{◌++◌, ◌∷◌, [], ◌∙◌, ap, arith, length}
use Rattle.sj_lang.specs.FileAt.{FileAt}
use Rattle.sj_lang.specs.FileView.{file_of}
use Rattle.sj_plain.specs.Plain.{acts_of, kept_file, world_at}
use Rattle.sj_semantics.specs.Lines.{line_of}
use Rattle.sj_semantics.specs.State.{opened_in}
use Rattle.sj_semantics.specs.Transcript.{opened_lines, party_lines, session_lines, transcript_of, verdict_word}
use Rattle.sj_text.proofs.CutLemmas.{cut_in_first, cut_behind, whole_is, on_err, put_both, ok_behind, err_behind, ok_whole, err_whole}
use Rattle.sj_print.proofs.PartLemmas.{session_count-run, party_count-run, transcript_is}
use Rattle.sj_print.proofs.transcript.print_transcript.Goals as goal

pub put_sessions-requires-clause-all : goal.put_sessions-requires-clause-all
put_sessions-requires-clause-all c =
    let p = c.args.plain.now in
    let many = session_count-run (kept_file p) (acts_of p) (world_at p) c.requires.run in
    let same = ap (λ (f : FileAt). length f.connects) c.requires.kept in omega (arith, many, same)

pub put_parties-requires-clause-all : goal.put_parties-requires-clause-all
put_parties-requires-clause-all c =
    let p = c.args.plain.now in party_count-run (kept_file p) (acts_of p) (world_at p) c.requires.run ∙ ap (λ (f : FileAt). length f.parties) c.requires.kept

pub returns-in_err-put_sessions-clause-err : goal.returns-in_err-put_sessions-clause-err
returns-in_err-put_sessions-clause-err c =
    let file = file_of c.args.file.now in let w = world_at c.args.plain.now in let old = c.args.text.now.items in let new = c.put_sessions.new.text.items in
    on_err c.from_residual.result _ (whole_is old _ (transcript_of file w) new (transcript_is file w)
    (cut_in_first old _ _ new (cut_in_first old _ _ new (cut_in_first old _ _ new c.in_err-put_sessions.ensures.err))))

pub returns-in_err-put_all_opened-clause-err : goal.returns-in_err-put_all_opened-clause-err
returns-in_err-put_all_opened-clause-err c =
    let file = file_of c.args.file.now in let w = world_at c.args.plain.now in let old = c.args.text.now.items in
    let mid = c.put_sessions.new.text.items in let new = c.put_all_opened.new.text.items in
    let cut = whole_is mid _ _ new (ap (opened_lines file w.sessions) c.opened.ensures) c.in_err-put_all_opened.ensures.err in
    on_err c.from_residual-in_err-put_all_opened.result _ (whole_is old _ (transcript_of file w) new (transcript_is file w)
    (cut_in_first old _ _ new (cut_in_first old _ _ new (cut_behind old (session_lines file 0 file.connects w.sessions) _ mid new c.in_ok-put_sessions.ensures.ok cut))))

pub returns-in_err-put_parties-clause-err : goal.returns-in_err-put_parties-clause-err
returns-in_err-put_parties-clause-err c =
    let file = file_of c.args.file.now in let w = world_at c.args.plain.now in let old = c.args.text.now.items in
    let mid = c.put_sessions.new.text.items in let next = c.put_all_opened.new.text.items in let new = c.put_parties.new.text.items in
    let first = session_lines file 0 file.connects w.sessions in
    let both = put_both old first (opened_lines file w.sessions (opened_in w)) mid next c.in_ok-put_sessions.ensures.ok
    (c.in_ok-put_all_opened.ensures.ok ∙ ap (λ os. mid ++ opened_lines file w.sessions os) c.opened.ensures) in
    on_err c.from_residual-in_err-put_parties.result _ (whole_is old _ (transcript_of file w) new (transcript_is file w)
    (cut_in_first old _ _ new (cut_behind old _ _ next new both c.in_err-put_parties.ensures.err)))

pub returns-clause-ok : goal.returns-clause-ok
returns-clause-ok c =
    let file = file_of c.args.file.now in let w = world_at c.args.plain.now in let old = c.args.text.now.items in
    let mid = c.put_sessions.new.text.items in let next = c.put_all_opened.new.text.items in let last = c.put_parties.new.text.items in let new = c.print_verdict.new.text.items in
    let first = session_lines file 0 file.connects w.sessions in
    let both = put_both old first (opened_lines file w.sessions (opened_in w)) mid next c.in_ok-put_sessions.ensures.ok
    (c.in_ok-put_all_opened.ensures.ok ∙ ap (λ os. mid ++ opened_lines file w.sessions os) c.opened.ensures) in
    let parts = first ++ opened_lines file w.sessions (opened_in w) ++ party_lines file w 0 file.parties w.parties in
    ok_whole old _ (transcript_of file w) new c.print_verdict.result (ap (λ v. parts ++ line_of (verdict_word v ∷ [])) c.verdict.ensures ∙ transcript_is file w)
    (ok_behind old parts _ last new c.print_verdict.result (put_both old _ _ next last both c.in_ok-put_parties.ensures.ok) c.print_verdict.ensures.ok)

pub returns-clause-err : goal.returns-clause-err
returns-clause-err c =
    let file = file_of c.args.file.now in let w = world_at c.args.plain.now in let old = c.args.text.now.items in
    let mid = c.put_sessions.new.text.items in let next = c.put_all_opened.new.text.items in let last = c.put_parties.new.text.items in let new = c.print_verdict.new.text.items in
    let first = session_lines file 0 file.connects w.sessions in
    let both = put_both old first (opened_lines file w.sessions (opened_in w)) mid next c.in_ok-put_sessions.ensures.ok
    (c.in_ok-put_all_opened.ensures.ok ∙ ap (λ os. mid ++ opened_lines file w.sessions os) c.opened.ensures) in
    let parts = first ++ opened_lines file w.sessions (opened_in w) ++ party_lines file w 0 file.parties w.parties in
    err_whole old _ (transcript_of file w) new c.print_verdict.result (ap (λ v. parts ++ line_of (verdict_word v ∷ [])) c.verdict.ensures ∙ transcript_is file w)
    (err_behind old parts _ last new c.print_verdict.result (put_both old _ _ next last both c.in_ok-put_parties.ensures.ok) c.print_verdict.ensures.err)

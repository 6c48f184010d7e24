use Rattle.std.proofs.Common.{◌++◌, ◌∙◌, [], ◌∷◌, ap, sym}
use Rattle.sj_lang.specs.FileView.{file_of}
use Rattle.sj_plain.specs.Plain.{world_at}
use Rattle.sj_print.proofs.PartLemmas.{transcript_is}
use Rattle.sj_semantics.specs.State.{opened_in, verdict_of}
use Rattle.sj_semantics.specs.Transcript.{line_of, opened_lines, party_lines, session_lines, verdict_word}
use Rattle.sj_join.proofs.NowLemmas.{last_is, whole_text}
use Rattle.sj_join.proofs.now.put_sessions.Goals as goal

pub returns : goal.returns
returns c =
    let file = file_of c.args.file.now in
    let w = world_at c.args.plain.now in
    let sessions = session_lines file 0 file.connects w.sessions ++ opened_lines file w.sessions (opened_in w) in
    let parties = party_lines file w 0 file.parties w.parties in
    let verdict = line_of (verdict_word (verdict_of w) ∷ []) in
    let last = last_is parties verdict c.new-last.result.items c.put_old.new.text.items c.print_verdict.new.text.items c.new-last.ensures.items c.in_ok-put_old.ensures
    (c.in_ok-print_verdict.ensures.ok ∙ ap (λ v. c.put_old.new.text.items ++ line_of (verdict_word v ∷ [])) c.verdict.ensures) in
    c.cut_off.ensures (c.args.text.now.items ++ sessions)
    (whole_text c.args.text.now.items sessions parties verdict c.print_transcript.new.text.items c.deref.result.now (c.in_ok-print_transcript.ensures.ok ∙ ap (λ t. c.args.text.now.items ++ t) (sym (transcript_is file w)))
    (c.deref.ensures.value ∙ last))

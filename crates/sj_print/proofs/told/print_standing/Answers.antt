use Rattle.std.proofs.Common.{◌++◌, ◌∷◌, [], ◌∙◌, ap}
use Rattle.sj_lang.specs.FileView.{file_of}
use Rattle.sj_semantics.specs.declared.Verdict.{Verdict}
use Rattle.sj_semantics.specs.Lines.{line_of}
use Rattle.sj_semantics.specs.Transcript.{session_lines, verdict_word}
use Rattle.sj_text.proofs.CutLemmas.{cut_behind, cut_in_first, on_err, put_both, whole_is}
use Rattle.sj_print.proofs.ToldLemmas.{after_after, cut_after, put_after}
use Rattle.sj_print.specs.Parts.{stand_lines, standing_text}
use Rattle.sj_print.proofs.told.print_standing.Goals as goal

pub returns-clause-ok : goal.returns-clause-ok
returns-clause-ok c = λ w few ends.
    let file = file_of c.args.file.now in let old = c.args.text.now.items in
    let mid = c.put_ends.new.text.items in let next = c.put_stands.new.text.items in let new = c.print_verdict.new.text.items in
    let first = session_lines file 0 file.connects w.sessions in let second = stand_lines file c.args.stands.now in
    put_both old (first ++ second) (line_of (verdict_word c.verdict_by.result ∷ [])) next new
    (put_both old first second mid next (c.in_ok-put_ends.ensures.ok w few ends) c.in_ok-put_stands.ensures.ok) c.in_ok-print_verdict.ensures.ok
    ∙ ap (λ (v : Verdict). old ++ (first ++ second ++ line_of (verdict_word v ∷ []))) c.verdict_by.ensures

pub returns-in_err-put_ends-clause-err : goal.returns-in_err-put_ends-clause-err
returns-in_err-put_ends-clause-err c = on_err c.from_residual.result _ (λ w few ends.
    let old = c.args.text.now.items in let new = c.put_ends.new.text.items in
    cut_in_first old _ _ new (cut_in_first old _ _ new (c.in_err-put_ends.ensures.err w few ends)))

pub returns-in_err-put_stands-clause-err : goal.returns-in_err-put_stands-clause-err
returns-in_err-put_stands-clause-err c = on_err c.from_residual-in_err-put_stands.result _ (λ w few ends.
    let file = file_of c.args.file.now in let old = c.args.text.now.items in let mid = c.put_ends.new.text.items in let new = c.put_stands.new.text.items in
    let first = session_lines file 0 file.connects w.sessions in
    cut_in_first old _ _ new (cut_behind old first _ mid new (c.in_ok-put_ends.ensures.ok w few ends) c.in_err-put_stands.ensures.err))

pub returns-in_err-print_verdict-clause-err : goal.returns-in_err-print_verdict-clause-err
returns-in_err-print_verdict-clause-err c = on_err c.from_residual-in_err-print_verdict.result _ (λ w few ends.
    let file = file_of c.args.file.now in let old = c.args.text.now.items in
    let mid = c.put_ends.new.text.items in let next = c.put_stands.new.text.items in let new = c.print_verdict.new.text.items in
    let first = session_lines file 0 file.connects w.sessions in let second = stand_lines file c.args.stands.now in
    let verdict = ap (λ (v : Verdict). first ++ second ++ line_of (verdict_word v ∷ [])) c.verdict_by.ensures in
    whole_is old _ (standing_text file w c.args.stands.now) new verdict
    (cut_behind old (first ++ second) _ next new (put_both old first second mid next (c.in_ok-put_ends.ensures.ok w few ends) c.in_ok-put_stands.ensures.ok) c.in_err-print_verdict.ensures.err))

pub returns-in_err-put_ends-clause-kept : goal.returns-in_err-put_ends-clause-kept
returns-in_err-put_ends-clause-kept c = c.put_ends.ensures.kept

pub returns-in_err-put_stands-clause-kept : goal.returns-in_err-put_stands-clause-kept
returns-in_err-put_stands-clause-kept c =
    let old = c.args.text.now.items in let mid = c.put_ends.new.text.items in let new = c.put_stands.new.text.items in
    after_after old mid new c.put_ends.ensures.kept (cut_after mid _ new c.in_err-put_stands.ensures.err)

pub returns-in_err-print_verdict-clause-kept : goal.returns-in_err-print_verdict-clause-kept
returns-in_err-print_verdict-clause-kept c =
    let old = c.args.text.now.items in let mid = c.put_ends.new.text.items in let next = c.put_stands.new.text.items in let new = c.print_verdict.new.text.items in
    after_after old next new (after_after old mid next c.put_ends.ensures.kept (put_after mid _ next c.in_ok-put_stands.ensures.ok)) (cut_after next _ new c.in_err-print_verdict.ensures.err)

pub returns-clause-kept : goal.returns-clause-kept
returns-clause-kept c =
    let old = c.args.text.now.items in let mid = c.put_ends.new.text.items in let next = c.put_stands.new.text.items in let new = c.print_verdict.new.text.items in
    after_after old next new (after_after old mid next c.put_ends.ensures.kept (put_after mid _ next c.in_ok-put_stands.ensures.ok)) (put_after next _ new c.in_ok-print_verdict.ensures.ok)

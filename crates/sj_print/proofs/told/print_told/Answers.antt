use Rattle.std.proofs.Common.{◌++◌, ◌∙◌, ap}
use Rattle.sj_lang.specs.FileView.{file_of}
use Rattle.sj_semantics.specs.Transcript.{transcript_of}
use Rattle.sj_text.proofs.CutLemmas.{on_err, whole_is}
use Rattle.sj_print.proofs.ToldLemmas.{standing_is}
use Rattle.sj_print.proofs.told.print_told.Goals as goal

pub returns-clause-ok : goal.returns-clause-ok
returns-clause-ok c = λ w none few ends stands.
    let old = c.args.text.now.items in
    c.in_ok-print_standing.ensures.ok w few ends ∙ ap (λ xs. old ++ xs) (standing_is (file_of c.args.file.now) w c.args.stands.now none stands)

pub returns-in_err-print_standing-clause-err : goal.returns-in_err-print_standing-clause-err
returns-in_err-print_standing-clause-err c = on_err c.from_residual.result _ (λ w none few ends stands.
    let file = file_of c.args.file.now in let old = c.args.text.now.items in let new = c.print_standing.new.text.items in
    whole_is old _ (transcript_of file w) new (standing_is file w c.args.stands.now none stands) (c.in_err-print_standing.ensures.err w few ends))

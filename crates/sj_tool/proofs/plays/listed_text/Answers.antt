use Rattle.std.proofs.Common.{◌≡◌, ◌∙◌, ◌++◌, List, ap, arith, length, map, subst, sym}
use Rattle.std.proofs.lemmas.List.{length-map}
use Rattle.sj_end.specs.Lines.{line_at}
use Rattle.sj_lang.specs.FileView.{connect_of, file_of}
use Rattle.sj_semantics.specs.Transcript.{transcript_of}
use Rattle.sj_told.specs.Told.{AreEnds}
use Rattle.sj_told.specs.declared.told.ToldEnd.{ToldEnd}
use Rattle.sj_tool.specs.Runs.{log_part}
use Rattle.sj_tool.proofs.TellingLemmas.{ends_are}
use Rattle.sj_tool.proofs.plays.listed_text.Goals as goal

pub print_told-requires-clause-ends : goal.print_told-requires-clause-ends
print_told-requires-clause-ends c =
    let all = length-map c.args.file.now.connects.items connect_of in
    omega (arith, all, c.in_ok-ends.ensures.count, c.len.ensures, c.args.file.now.connects.ok.0)

pub returns : goal.returns
returns c = λ w told.
    let file = file_of c.args.file.now in
    let all = length-map c.args.file.now.connects.items connect_of in
    let same : c.len.result ≡ length file.connects = omega (arith, all, c.len.ensures, c.args.file.now.connects.ok.0) in
    let own = ends_are file (map line_at c.args.lines.now) c.args.stands.now w c.in_ok-ends.ends.items c.len.result same told c.in_ok-ends.ensures in
    let ends = subst (λ (xs : List ToldEnd). AreEnds file w xs) (sym c.deref.ensures.value) own in
    let text = c.in_ok-print_told.ensures.ok w told.opened told.sessions ends told.parties
    ∙ ap (λ (xs : List _). xs ++ transcript_of file w) c.new-text.ensures.items in
    c.in_ok-put_log.ensures ∙ ap (λ xs. xs ++ log_part c.args.log file (map line_at c.args.lines.now)) text

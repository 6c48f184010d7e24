use Rattle.std.proofs.Common.{◌≡◌, ◌∙◌, ◌++◌, ℕ, List, ap}
use Rattle.sj_lang.specs.declared.file.File.{File}
use Rattle.sj_lang.specs.FileView.{file_of}
use Rattle.sj_check.specs.Held.{file_in}
use Rattle.sj_semantics.specs.Run.{end_of}
use Rattle.sj_semantics.specs.State.{verdict_of}
use Rattle.sj_semantics.specs.Transcript.{transcript_of}
use Rattle.sj_plain.specs.Plain.{kept_file, world_at}
use Rattle.sj_core.proofs.EndLemmas.{end_kept}
use Rattle.sj_tool.proofs.plays.simulate.Goals as goal

pub returns : goal.returns
returns c =
    let file = file_of (file_in c.args.accepted.now) in
    let held = c.file.ensures.value in
    let ends : world_at c.finish.new.self ≡ end_of file = end_kept (kept_file c.finish.new.self) (kept_file c.in_ok-plain.plain) file (world_at c.finish.new.self) c.in_ok-finish.ensures.end c.finish.ensures.kept c.in_ok-plain.ensures.kept in
    let verdict = c.verdict.ensures ∙ ap verdict_of ends in
    let text =
    c.in_ok-print_transcript.ensures.ok
    ∙ ap (λ (xs : List ℕ). xs ++ transcript_of (file_of c.file.result.now) (world_at c.finish.new.self)) c.new-text.ensures.items
    ∙ ap (λ (f : File). transcript_of (file_of f) (world_at c.finish.new.self)) held ∙ ap (transcript_of file) ends in
    (verdict, text)

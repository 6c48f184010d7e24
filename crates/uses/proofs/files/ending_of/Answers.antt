use Rattle.std.proofs.Common.{◌∙◌, ◌++◌, ℕ, List, ap}
use Rattle.sj_check.specs.Held.{file_in}
use Rattle.sj_lang.specs.FileView.{file_of}
use Rattle.sj_lang.specs.declared.file.File.{File}
use Rattle.sj_plain.specs.Plain.{kept_file, world_at}
use Rattle.sj_semantics.specs.State.{verdict_of}
use Rattle.sj_semantics.specs.Transcript.{transcript_of}
use Rattle.sj_core.proofs.EndLemmas.{end_kept}
use Rattle.uses.proofs.files.ending_of.Goals as goal

pub returns-clause-verdict : goal.returns-clause-verdict
returns-clause-verdict c =
    let file = file_of (file_in c.args.accepted.now) in
    c.verdict-verdict.ensures ∙ ap verdict_of (end_kept (kept_file c.finish.new.self) (kept_file c.in_ok-plain.plain) file (world_at c.finish.new.self) c.in_ok-finish.ensures.end c.finish.ensures.kept c.in_ok-plain.ensures.kept)

pub returns-clause-transcript : goal.returns-clause-transcript
returns-clause-transcript c =
    let file = file_of (file_in c.args.accepted.now) in
    let w = world_at c.finish.new.self in
    c.in_ok-print_transcript.ensures.ok
    ∙ ap (λ (xs : List ℕ). xs ++ transcript_of (file_of c.file.result.now) w) c.new-transcript.ensures.items
    ∙ ap (λ (f : File). transcript_of (file_of f) w) c.file.ensures.value
    ∙ ap (transcript_of file) (end_kept (kept_file c.finish.new.self) (kept_file c.in_ok-plain.plain) file w c.in_ok-finish.ensures.end c.finish.ensures.kept c.in_ok-plain.ensures.kept)

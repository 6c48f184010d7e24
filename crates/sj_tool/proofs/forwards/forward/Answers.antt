use Rattle.std.proofs.Common.{◌≡◌, ◌∙◌, ◌++◌, ℕ, List, ap, subst, sym}
use Rattle.sj_acceptance.specs.Accepted.{IsAccepted}
use Rattle.sj_check.specs.Held.{file_in}
use Rattle.sj_forward.specs.Forward as forward
use Rattle.sj_lang.specs.declared.file.File.{File}
use Rattle.sj_lang.specs.FileView.{file_of}
use Rattle.sj_plain.specs.Plain.{acts_of, kept_file, world_at}
use Rattle.sj_plain.specs.declared.plain.Plain.{Plain}
use Rattle.sj_semantics.specs.Run.{IsRun, end_of}
use Rattle.sj_semantics.specs.State.{verdict_of}
use Rattle.sj_semantics.specs.Transcript.{transcript_of}
use Rattle.sj_tool.specs.Forwards.{passed_line}
use Rattle.sj_tool.proofs.ForwardLemmas.{drain_text}
use Rattle.sj_tool.proofs.forwards.forward.Goals as goal

pub print_transcript-requires-clause-run : goal.print_transcript-requires-clause-run
print_transcript-requires-clause-run c =
    let reached = c.in_ok-world.ensures.run in
    let plain = forward.plain_of c.in_ok-world.world in
    let run : IsRun (kept_file plain) (acts_of plain) (world_at plain) = subst (λ (acts : List ℕ). IsRun (kept_file plain) acts (world_at plain)) (sym reached.acts) reached.plain_run in
    subst (λ (p : Plain). IsRun (kept_file p) (acts_of p) (world_at p)) (sym c.plain-plain.ensures.value) run

pub returns : goal.returns
returns c =
    let file = file_of (file_in c.args.accepted.now) in
    let drained = c.in_ok-world.ensures.drained in
    let held = c.file.ensures.value in
    let accepted : IsAccepted file = subst (λ (f : File). IsAccepted (file_of f)) held c.file.ensures.accepted in
    let ends : world_at c.plain-plain.result.now ≡ end_of file = ap world_at c.plain-plain.ensures.value ∙ drained.end in
    let transcript =
    c.in_ok-print_transcript.ensures.ok
    ∙ ap (λ (xs : List ℕ). xs ++ transcript_of (file_of c.file.result.now) (world_at c.plain-plain.result.now)) c.new-text.ensures.items
    ∙ ap (λ (f : File). transcript_of (file_of f) (world_at c.plain-plain.result.now)) held ∙ ap (transcript_of file) ends in
    let text =
    c.in_ok-put_passed.ensures ∙ ap (λ (xs : List ℕ). xs ++ passed_line c.passed.result) transcript
    ∙ ap (λ (n : ℕ). transcript_of file (end_of file) ++ passed_line n) (c.passed.ensures ∙ drained.passed) in (
      c.verdict.ensures ∙ ap verdict_of ends,
      drain_text file accepted drained.turns (forward.forward_at c.in_ok-world.world) _ drained.drained text,
    )

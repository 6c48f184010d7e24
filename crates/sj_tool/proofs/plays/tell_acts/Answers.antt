use Rattle.std.proofs.Common.{◌≡◌, ◌∙◌, List, ap, map, subst, sym}
use Rattle.sj_acceptance.specs.Accepted.{IsAccepted}
use Rattle.sj_check.specs.Held.{file_in}
use Rattle.sj_core.specs.World.{history_of, world_at}
use Rattle.sj_end.specs.Lines.{line_at}
use Rattle.sj_lang.specs.FileAt.{FileAt}
use Rattle.sj_lang.specs.FileView.{file_of}
use Rattle.sj_lang.specs.declared.file.File.{File}
use Rattle.sj_plain.specs.SharedFile.{without_words}
use Rattle.sj_plain.specs.Plain as plain
use Rattle.sj_rules.specs.Log.{LineAt}
use Rattle.sj_semantics.specs.Run.{IsRun, end_of}
use Rattle.sj_semantics.specs.State.{verdict_of}
use Rattle.sj_semantics.specs.World.{World}
use Rattle.sj_tool.specs.Runs.{actors, run_text}
use Rattle.sj_core.proofs.EndLemmas.{quiet_ends}
use Rattle.sj_tool.proofs.plays.tell_acts.Goals as goal

pub act_all-requires : goal.act_all-requires
act_all-requires c =
    let file = file_of (file_in c.args.accepted.now) in
    let accepted = subst (λ (f : File). IsAccepted (file_of f)) c.file-file.ensures.value c.file-file.ensures.accepted in
    subst (λ (h : List LineAt). IsRun file (actors h) (end_of file)) (sym c.history.ensures)
    (quiet_ends file accepted (history_of c.args.world.now) (world_at c.args.world.now) c.requires.run c.requires.quiet)

pub text_for-requires-clause-kept : goal.text_for-requires-clause-kept
text_for-requires-clause-kept c = c.in_ok-plain.ensures.kept ∙ ap (λ (f : File). without_words (file_of f)) (sym c.file-file.ensures.value)

pub returns-clause-told : goal.returns-clause-told
returns-clause-told c =
    let file = file_of (file_in c.args.accepted.now) in
    let same : file_of c.file-file.result.now ≡ file = ap file_of c.file-file.ensures.value in (
      c.verdict.ensures ∙ ap verdict_of c.in_ok-plain.ensures.end,
      c.in_ok-text.ensures
          ∙ ap (λ (f : FileAt). run_text c.args.print f (map line_at c.history-2.result.now) (plain.world_at c.in_ok-plain.plain)) same
          ∙ ap (λ (h : List LineAt). run_text c.args.print file h (plain.world_at c.in_ok-plain.plain)) c.history-2.ensures
          ∙ ap (λ (w : World). run_text c.args.print file (history_of c.args.world.now) w) c.in_ok-plain.ensures.end,
    )

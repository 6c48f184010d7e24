use Rattle.std.proofs.Common.{◌≡◌, ◌∙◌, List, ap, map, length, subst, sym}
use Rattle.sj_acceptance.specs.Accepted.{IsAccepted}
use Rattle.sj_check.specs.Held.{file_in}
use Rattle.sj_core.specs.ToldWorld.{IsQuietOf}
use Rattle.sj_core.specs.World.{history_of, world_at}
use Rattle.sj_end.specs.Lines.{line_at}
use Rattle.sj_lang.specs.FileAt.{FileAt}
use Rattle.sj_lang.specs.FileView.{file_of}
use Rattle.sj_lang.specs.declared.file.File.{File}
use Rattle.sj_rules.specs.Log.{LineAt}
use Rattle.sj_semantics.specs.Run.{end_of}
use Rattle.sj_told.specs.Told.{AreStands}
use Rattle.sj_told.specs.declared.told.Stand.{Stand}
use Rattle.sj_tool.specs.Runs.{run_text}
use Rattle.sj_tool.specs.Telling.{IsToldIn}
use Rattle.sj_tool.proofs.TellingLemmas.{all_stand, told_in_end}
use Rattle.sj_tool.proofs.plays.tell_notes.Goals as goal

pub noted_text-requires-clause-parties : goal.noted_text-requires-clause-parties
noted_text-requires-clause-parties c =
    let file = file_of (file_in c.args.accepted.now) in
    let accepted = subst (λ (f : File). IsAccepted (file_of f)) c.file-file.ensures.value c.file-file.ensures.accepted in
    let quiet : IsQuietOf file c.args.world.now = record { accepted = accepted; kept = c.requires.kept; run = c.requires.run; quiet = c.requires.quiet } in
    ap length c.deref.ensures.value
    ∙ all_stand file accepted (history_of c.args.world.now) (world_at c.args.world.now) c.requires.run c.requires.quiet c.in_ok-stands.stands.items (c.in_ok-stands.ensures.stands file quiet)
    ∙ ap (λ (f : File). length (file_of f).parties) (sym c.file-file.ensures.value)

pub returns-clause-told : goal.returns-clause-told
returns-clause-told c =
    let file = file_of (file_in c.args.accepted.now) in
    let accepted = subst (λ (f : File). IsAccepted (file_of f)) c.file-file.ensures.value c.file-file.ensures.accepted in
    let quiet : IsQuietOf file c.args.world.now = record { accepted = accepted; kept = c.requires.kept; run = c.requires.run; quiet = c.requires.quiet } in
    let none = c.requires.none file quiet in
    let are = c.in_ok-stands.ensures.stands file quiet in
    let told = told_in_end file accepted (history_of c.args.world.now) (world_at c.args.world.now) c.requires.run c.requires.quiet c.in_ok-stands.stands.items are none in
    let same : file_of c.file-file.result.now ≡ file = ap file_of c.file-file.ensures.value in
    let own = subst (λ (f : FileAt). IsToldIn f (map line_at c.history.result.now) c.in_ok-stands.stands.items (end_of file)) (sym same)
    (subst (λ (h : List LineAt). IsToldIn file h c.in_ok-stands.stands.items (end_of file)) (sym c.history.ensures) told) in
    let here = subst (λ (ss : List Stand). IsToldIn (file_of c.file-file.result.now) (map line_at c.history.result.now) ss (end_of file)) (sym c.deref.ensures.value) own in (
      c.verdict_told.ensures.world (end_of file) none (subst (λ (ss : List Stand). AreStands (end_of file) ss) (sym c.deref-2.ensures.value) are),
      c.in_ok-text.ensures (end_of file) here
          ∙ ap (λ (f : FileAt). run_text c.args.print f (map line_at c.history.result.now) (end_of file)) same
          ∙ ap (λ (h : List LineAt). run_text c.args.print file h (end_of file)) c.history.ensures,
    )

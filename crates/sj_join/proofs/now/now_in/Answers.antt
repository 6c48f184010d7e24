use Rattle.std.proofs.Common.{◌∙◌, ap, length, map, option_map, subst, sym}
use Rattle.sj_check.specs.Held.{file_in as held}
use Rattle.sj_core.specs.Replaying.{IsMisfitFrom}
use Rattle.sj_core.specs.declared.refusal.ReplayRefusal.{ReplayRefusal}
use Rattle.sj_end.specs.Lines.{line_at}
use Rattle.sj_lang.specs.FileAt.{FileAt}
use Rattle.sj_lang.specs.FileView.{file_of}
use Rattle.sj_lang.specs.declared.file.File.{File}
use Rattle.sj_plain.specs.Plain.{acts_of, kept_file, world_at}
use Rattle.sj_print.proofs.PartLemmas.{party_count-run}
use Rattle.sj_join.specs.Now.{actors}
use Rattle.sj_join.proofs.ActedLemmas.{acts_go, is_now, the_one}
use Rattle.sj_join.proofs.now.now_in.Goals as goal

pub place_all-requires-clause-all : goal.place_all-requires-clause-all
place_all-requires-clause-all c =
    let p = c.in-Some.plain in
    let a = c.in_ok-plain.ensures in
    let o = c.in_ok-plain.field-0 in
    party_count-run (kept_file p) (acts_of p) (world_at p) (the_one _ o p c.in-Some.is a.run) ∙ ap (λ (f : FileAt). length f.parties) (the_one _ o p c.in-Some.is a.kept)
    ∙ ap (λ (f : File). length (file_of f).parties) (sym c.file-file.ensures.value)

pub returns-in-Some : goal.returns-in-Some
returns-in-Some c =
    let a = c.in_ok-plain.ensures in
    let p = c.in-Some.plain in
    let o = c.in_ok-plain.field-0 in
    let now = c.in_ok-place_all-in-Some in
    is_now c.file-file.result.now (held c.args.accepted.now) (map line_at c.args.lines.items) _ p now.field-0 c.file-file.ensures.value c.in-Ok.ensures.ok (the_one _ o p c.in-Some.is a.kept)
    (the_one _ o p c.in-Some.is a.run) (the_one _ o p c.in-Some.is a.acts ∙ ap actors (c.history.ensures ∙ c.in-Ok.ensures.history)) now.ensures.verdict now.ensures.text

-- the acts of a history can be done
pub returns : goal.returns
returns c =
    let go = acts_go c.file-file.result.now (held c.args.accepted.now) (map line_at c.args.lines.items) (map line_at c.history.result.now) _ c.file-file.ensures.accepted c.file-file.ensures.value c.in-Ok.ensures.ok
    (c.history.ensures ∙ c.in-Ok.ensures.history) in
    absurd (c.in_ok-plain.ensures.none c.in-None.is go.0 go.1)

pub returns-in-Err-Misfit : goal.returns-in-Err-Misfit
returns-in-Err-Misfit c =
    let m = c.in-Err-Misfit.field-0-0 in
    record {
      number = m.number;
      logged = line_at m.logged;
      other = option_map line_at m.due;
      first = subst (λ (r : ReplayRefusal). IsMisfitFrom (file_of (held c.args.accepted.now)) (map line_at c.args.lines.items) r) c.in-Err-Misfit.field-0-is c.in-Err-Misfit.ensures.misfit;
    }

use Rattle.std.proofs.Common.{◌∙◌, ℕ, ap, length, max, subst, sym}
use Rattle.std.proofs.lemmas.List.{length-map}
use Rattle.sj_core.specs.World.{history_of, kept_file, world_at}
use Rattle.sj_end.specs.Lines.{line_at}
use Rattle.sj_lang.specs.FileAt.{FileAt}
use Rattle.sj_lang.specs.FileView.{file_of}
use Rattle.sj_lang.specs.declared.file.File.{File}
use Rattle.sj_plain.specs.SharedFile.{without_words}
use Rattle.sj_rules.specs.History.{IsHistory, IsQuietAmong}
use Rattle.sj_rules.specs.Party.{play_of}
use Rattle.bench_core.proofs.events_in.Goals as goal

pub returns-in-Ok-drain : goal.returns-in-Ok-drain
returns-in-Ok-drain c =
    let w = c.drain.new.self in
    let same = c.drain.ensures.kept ∙ c.in-Ok-start.ensures.kept ∙ ap (λ (f : File). without_words (file_of f)) c.in-Ok-check.ensures.ok in
    let all = subst (λ (k : ℕ). IsQuietAmong (play_of (kept_file w)) k (world_at w)) c.drain.ensures.parties c.in-Ok-drain.ensures.quiet in
    record {
      file = file_of c.in-Ok.file;
      read = c.in-Ok.ensures.found;
      history = history_of w;
      core = world_at w;
      run = subst (λ (f : FileAt). IsHistory max f (history_of w) (world_at w)) same c.drain.ensures.run;
      quiet = subst (λ (f : FileAt). IsQuietAmong (play_of f) (length f.parties) (world_at w)) same all;
      size = sym (length-map c.history.result.now line_at) ∙ ap length c.history.ensures;
    }

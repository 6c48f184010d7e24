use Rattle.std.proofs.Common.{◌≡◌, Some, drop, map}
use Rattle.sj_check.specs.Held.{file_in}
use Rattle.sj_end.specs.Lines.{line_at}
use Rattle.sj_lang.specs.FileView.{file_of}
use Rattle.sj_plain.specs.SharedFile.{without_words}
use Rattle.sj_plain.specs.Plain.{acts_of, kept_file, world_at}
use Rattle.sj_semantics.specs.Run.{IsRun, after_acts, end_of}
use Rattle.sj_tool.specs.Runs.{actors}
use Rattle.sj_tool.proofs.acts.act_all.Given as goal

-- the acts of the lines that are left lead on to the end of the file
abbrev pub invariant-loop-line : goal.invariant-loop-line
invariant-loop-line l = record {
  ahead : after_acts (world_at l.plain) (actors (map line_at (drop l.line-index l.lines))) ≡ Some (end_of (file_of (file_in l.fn.accepted)));
  of_file : kept_file l.plain ≡ without_words (file_of (file_in l.fn.accepted));
  reached : IsRun (kept_file l.plain) (acts_of l.plain) (world_at l.plain);
}

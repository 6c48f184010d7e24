-- The end of a file: it is that without its words, and a quiet history leads there.
use Rattle.std.proofs.Common.{◌≡◌, ◌∙◌, ◌*◌, List, ap, length, map, max, subst}
use Rattle.sj_lang.specs.FileAt.{FileAt}
use Rattle.sj_lang.specs.Place.{Place}
use Rattle.sj_acceptance.specs.Accepted.{IsAccepted}
use Rattle.sj_semantics.specs.Program.{Program}
use Rattle.sj_semantics.specs.Run.{IsRun, end_of, rounds}
use Rattle.sj_semantics.specs.World.{World}
use Rattle.sj_plain.specs.SharedFile.{without_words}
use Rattle.sj_plain.proofs.BeginLemmas.{start_same}
use Rattle.sj_rules.specs.Events.{acts_in}
use Rattle.sj_rules.specs.History.{IsHistory, IsLog, IsQuietAmong, turn_of}
use Rattle.sj_rules.specs.Log.{LineAt}
use Rattle.sj_rules.specs.Party.{play_of}
use Rattle.sj_rules.specs.Start.{core_start}
use Rattle.sj_rules.specs.World.{WorldAt}
use Rattle.sj_joined_lemmas.proofs.HistoryLemmas.{log_runs}
use Rattle.sj_rules_laws.proofs.RunLawsLemmas.{quiet_run_ends}
use Rattle.sj_core.proofs.FirstLemmas.{core_start_same}
use Rattle.sj_core.proofs.LawLemmas.{max_picks}

end_same : (file : FileAt) → end_of (without_words file) ≡ end_of file
unfolding end_of
end_same file = ap (rounds (10000 * length file.parties)) (start_same file)

-- the end of what is kept of a file
pub end_kept : (kept first file : FileAt) (w : World) → w ≡ end_of kept → kept ≡ first → first ≡ without_words file → w ≡ end_of file
end_kept kept first file w e same without = e ∙ ap end_of (same ∙ without) ∙ end_same file

-- a history of what is kept of a file is one of the file
pub kept_history : (file kept : FileAt) (lines : List LineAt) (w : WorldAt Place Program) → kept ≡ without_words file → IsHistory max kept lines w → IsHistory max file lines w
kept_history file kept lines w is h =
    subst (λ (start : WorldAt Place Program). IsLog (play_of file) max start lines w) (core_start_same file)
    (subst (λ (f : FileAt). IsHistory max f lines w) is h)

-- the acts of a history that leaves nothing to do lead to the end of the file
pub quiet_ends : (file : FileAt) → IsAccepted file → (history : List LineAt) (core : WorldAt Place Program) → IsHistory max file history core → IsQuietAmong (play_of file) (length file.parties) core
    → IsRun file (acts_in (map turn_of history)) (end_of file)
quiet_ends file accepted history core run quiet =
    (quiet_run_ends file accepted (map turn_of history) core (log_runs (play_of file) max max_picks history (core_start file) core run) quiet).0

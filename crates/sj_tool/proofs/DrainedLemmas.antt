-- A core world to which given lines lead, and what is drained after them.
use Rattle.std.proofs.Common.{◌≡◌, ◌∙◌, ℕ, max, true, List, ◌++◌, map, length, subst, sym}
use Rattle.sj_lang.specs.FileAt.{FileAt}
use Rattle.sj_lang.specs.Place.{Place}
use Rattle.sj_acceptance.specs.Accepted.{IsAccepted}
use Rattle.sj_semantics.specs.declared.Verdict.{Verdict}
use Rattle.sj_semantics.specs.Program.{Program}
use Rattle.sj_headline_laws.proofs.HeadlineLemmas.{settled_run_has_it}
use Rattle.sj_semantics.specs.Run.{end_of}
use Rattle.sj_semantics_laws.proofs.FinishLemmas.{end_is_settled}
use Rattle.sj_plain.specs.SharedFile.{without_words}
use Rattle.sj_rules.specs.Drain.{IsDrained}
use Rattle.sj_rules.specs.History.{IsHistory, IsQuietAmong, turn_of}
use Rattle.sj_rules.specs.Log.{LineAt}
use Rattle.sj_rules.specs.Party.{play_of}
use Rattle.sj_rules.specs.World.{WorldAt}
use Rattle.sj_core.proofs.EndLemmas.{kept_history, quiet_ends}
use Rattle.sj_run.specs.Logged.{AreLogged}
use Rattle.sj_run.specs.Shown.{IsShown}
use Rattle.sj_command.specs.declared.tasks.Task.{Task}
use Rattle.sj_command.specs.declared.tasks.Task.TheVariants as tasks
use Rattle.sj_tool.specs.declared.plans.Print.{Print}
use Rattle.sj_tool.specs.LogAt.{LogAt, Spells}
use Rattle.sj_tool.specs.Calls.{LinkUseAt}
use Rattle.sj_tool.specs.Tasks.{Replays, RunsParties, looks_of}
use Rattle.sj_tool.specs.Runs.{HasBegun, HasHistory, HasRun, IsTold, actors, print_of}

-- a task that runs parties replays no log
pub runs_or_replays : (task : Task) → RunsParties task → Replays task → ⊥
runs_or_replays (tasks.Replay l) runs replays = runs
runs_or_replays task runs replays = replays

module _ (links : LinkUseAt) (task : Task) (log : LogAt) (file : FileAt) (lines : List LineAt) (left : WorldAt Place Program) where
  -- what parties logged begins a history of a task that runs them, as links that report show it
  abbrev pub ran_begun : RunsParties task → IsHistory max file lines left → AreLogged file lines → (links.tells ≡ true → IsShown file (looks_of task) links.keeps lines left) → HasBegun links task log file
  ran_begun runs leads logged shown =
      record { lines = lines; left = left; leads = leads; spelled = λ replays. absurd (runs_or_replays task runs replays); logged = λ none. logged; shown = λ none. shown }

  -- what the log spells begins one of a task that replays it
  abbrev pub spelled_begun : Replays task → IsHistory max file lines left → Spells file log lines → HasBegun links task log file
  spelled_begun replays leads spells =
      record { lines = lines; left = left; leads = leads; spelled = λ _. spells; logged = λ none. absurd (none replays); shown = λ none. absurd (none replays) }

module _ (file first kept : FileAt) (of_file : first ≡ without_words file) (same : kept ≡ first) (n m : ℕ) (left core : WorldAt Place Program) (lines more history : List LineAt) where
  -- what is drained is a history of the file, and leaves nothing to do
  pub drained_quiet : m ≡ length kept.parties → IsHistory max kept history core → IsQuietAmong (play_of kept) m core → IsHistory max file history core × IsQuietAmong (play_of file) (length file.parties) core
  drained_quiet those run quiet =
      let all_kept = same ∙ of_file in
      let rest : IsQuietAmong (play_of kept) (length kept.parties) core = subst (λ (k : ℕ). IsQuietAmong (play_of kept) k core) those quiet in
      (kept_history file kept history core all_kept run, subst (λ (f : FileAt). IsQuietAmong (play_of f) (length f.parties) core) all_kept rest)

  -- lines that were logged or are spelled, and what was drained after them
  abbrev pub drained_has : (links : LinkUseAt) (task : Task) (log : LogAt) → n ≡ length first.parties → m ≡ length kept.parties → history ≡ lines ++ more → IsHistory max first lines left
      → (Replays task → Spells file log lines) → ((Replays task → ⊥) → AreLogged file lines) → ((Replays task → ⊥) → links.tells ≡ true → IsShown file (looks_of task) links.keeps lines left)
      → IsHistory max kept history core → IsDrained (play_of first) max n left (map turn_of more) core → IsQuietAmong (play_of kept) m core
      → HasHistory links task log file history core
  drained_has links task log all those listed begins spelled logged shown run drained quiet =
      let by : IsDrained (play_of first) max (length first.parties) left (map turn_of more) core =
      subst (λ (k : ℕ). IsDrained (play_of first) max k left (map turn_of more) core) all drained in
      let whole = drained_quiet those run quiet in
      record {
        begun = record { lines = lines; left = left; leads = kept_history file first lines left of_file begins; spelled = spelled; logged = logged; shown = shown };
        more = more;
        all = listed;
        drained = subst (λ (f : FileAt). IsDrained (play_of f) max (length f.parties) left (map turn_of more) core) of_file by;
        run = whole.0;
        quiet = whole.1;
      }

  -- where parties ran
  abbrev pub drained_ran : (links : LinkUseAt) (task : Task) (runs : RunsParties task) (log : LogAt) → n ≡ length first.parties → m ≡ length kept.parties → history ≡ lines ++ more → IsHistory max first lines left
      → AreLogged file lines → (links.tells ≡ true → IsShown file (looks_of task) links.keeps lines left) → IsHistory max kept history core → IsDrained (play_of first) max n left (map turn_of more) core → IsQuietAmong (play_of kept) m core
      → HasHistory links task log file history core
  drained_ran links task runs log all those listed begins logged shown run drained quiet =
      drained_has links task log all those listed begins (λ replays. absurd (runs_or_replays task runs replays)) (λ none. logged) (λ none. shown) run drained quiet

-- so what is reported of it is what the task answers
abbrev pub told_runs : (links : LinkUseAt) (task : Task) (log : LogAt) (file : FileAt) → IsAccepted file → (history : List LineAt) (core : WorldAt Place Program) → HasHistory links task log file history core
    → (p : Print) → print_of task ≡ p → (v : Verdict) (text : List ℕ) → IsTold p file history v text → HasRun links task log file v text
told_runs links task log file accepted history core has p is v text told = record {
  history = history;
  core = core;
  has = has;
  headline = settled_run_has_it file (actors history) (end_of file) accepted (quiet_ends file accepted history core has.run has.quiet) (end_is_settled file);
  told = subst (λ (q : Print). IsTold q file history v text) (sym is) told;
}

-- A file is run in one way: by a log whole, by its parties up to their history.
use Rattle.std.proofs.Common.{◌≡◌, ◌⊎◌, ◌∙◌, ℕ, max, true, false, List, ◌++◌, Result, Ok, length, map, inl, inr, ap, ap₂, refl, sym, subst}
use Rattle.std.specs.Prelude.{Bool, Option}
use Rattle.std.proofs.lemmas.List.{map-append}
use Rattle.sj_lang.specs.FileAt.{FileAt}
use Rattle.sj_lang.specs.Place.{Place}
use Rattle.sj_semantics.specs.declared.Verdict.{Verdict}
use Rattle.sj_semantics.specs.Program.{Program}
use Rattle.sj_semantics.specs.Run.{end_of}
use Rattle.sj_rules.specs.Drain.{IsDrained}
use Rattle.sj_rules.specs.History.{IsHistory, Replay, turn_of, replay}
use Rattle.sj_rules.specs.Log.{LineAt}
use Rattle.sj_rules.specs.Party.{play_of}
use Rattle.sj_rules.specs.Start.{core_start}
use Rattle.sj_rules.specs.World.{WorldAt}
use Rattle.sj_joined_lemmas.proofs.HistoryLemmas.{replays, same_world}
use Rattle.sj_rules_laws.proofs.DrainLemmas.{drained_once}
use Rattle.sj_command.specs.declared.tasks.Task.{Task}
use Rattle.sj_command.specs.declared.tasks.Task.TheVariants as tasks
use Rattle.sj_tool.specs.LogAt.{LogAt, Spells}
use Rattle.sj_tool.specs.Calls.{LinkUseAt}
use Rattle.sj_tool.specs.Tasks.{HasEvents}
use Rattle.sj_tool.specs.Runs.{HasHistory, HasRun, print_of, run_text}
use Rattle.sj_tool.specs.Table.{AreLogs, IsLogText}

-- ---- a log has one history

-- lines with one list of events, from one start on, are one
same_lines : (file : FileAt) (lines others : List LineAt) (core world : WorldAt Place Program) → IsHistory max file lines core → IsHistory max file others world
    → map turn_of lines ≡ map turn_of others → lines ≡ others
same_lines file lines others core world a b e =
    let first = replays (play_of file) max lines (core_start file) core a in
    let second = replays (play_of file) max others (core_start file) world b in
    let both = sym first ∙ ap (λ ts. replay (play_of file) max ts (core_start file)) e ∙ second in
    let one : ◌≡◌ {A = Replay Place Program} (record { lines = lines; world = core }) (record { lines = others; world = world }) = cc both in
    ap (λ r. r.lines) one

same_ok : {E : Type 0} (lines others : List LineAt) → ◌≡◌ {A = Result (List LineAt) E} (Ok lines) (Ok others) → lines ≡ others
same_ok lines others e = cc

-- the log spells one list of lines
pub same_spelled : (file : FileAt) (log : LogAt) (lines others : List LineAt) → Spells file log lines → Spells file log others → lines ≡ others
same_spelled file log lines others a b = same_ok lines others (sym a ∙ b)

pub one_history : (first second : LinkUseAt) (l : Bool) (log : LogAt) (file : FileAt) (history other : List LineAt) (core world : WorldAt Place Program)
    → HasHistory first (tasks.Replay l) log file history core → HasHistory second (tasks.Replay l) log file other world → history ≡ other
one_history first second l log file history other core world x y =
    let lines : x.begun.lines ≡ y.begun.lines = same_spelled file log x.begun.lines y.begun.lines (x.begun.spelled tt) (y.begun.spelled tt) in
    let left : x.begun.left ≡ y.begun.left =
    same_world (play_of file) max y.begun.lines (core_start file) x.begun.left y.begun.left (subst (λ (ls : List LineAt). IsHistory max file ls x.begun.left) lines x.begun.leads) y.begun.leads in
    let drained =
    drained_once (play_of file) max (length file.parties) y.begun.left core world (map turn_of x.more) (map turn_of y.more)
    (subst (λ (w : WorldAt Place Program). IsDrained (play_of file) max (length file.parties) w (map turn_of x.more) core) left x.drained) y.drained in
    let turns : map turn_of history ≡ map turn_of other =
    ap (map turn_of) x.all ∙ map-append turn_of x.begun.lines x.more ∙ ap₂ (λ ts us. ts ++ us) (ap (map turn_of) lines) drained.0
    ∙ sym (map-append turn_of y.begun.lines y.more) ∙ ap (map turn_of) (sym y.all) in
    same_lines file history other core world x.run y.run turns

-- ---- what is printed of it

-- two runs print one text, up to the history of parties where it is asked for
abbrev pub AreAlike : LinkUseAt → Task → (log : LogAt) → FileAt → (v w : Verdict) (s t : List ℕ) → Type 0
AreAlike links task log file v w s t = (v ≡ w) × ((s ≡ t) ⊎ AreLogs links task log file s t)

-- a run whose history is printed has its log
logged : (links : LinkUseAt) (looks : ℕ) (workers : Option ℕ) (log : LogAt) (file : FileAt) (v : Verdict) (s : List ℕ)
    → HasRun links (tasks.Run true looks workers) log file v s → IsLogText links (tasks.Run true looks workers) log file s
logged links looks workers log file v s x = record { history = x.history; core = x.core; has = x.has; is = x.told.1 }

module _ (links : LinkUseAt) (log : LogAt) (file : FileAt) (v w : Verdict) (s t : List ℕ) where
  -- one verdict
  stand : (task : Task) → HasRun links task log file v s → HasRun links task log file w t → v ≡ w
  stand task x y = x.told.0 ∙ sym y.told.0

  -- one text
  print : (task : Task) (x : HasRun links task log file v s) (y : HasRun links task log file w t)
      → run_text (print_of task) file x.history (end_of file) ≡ run_text (print_of task) file y.history (end_of file) → AreAlike links task log file v w s t
  print task x y same = (stand task x y, inl (x.told.1 ∙ same ∙ sym y.told.1))

  pub one_run : (task : Task) → HasEvents task → HasRun links task log file v s → HasRun links task log file w t → AreAlike links task log file v w s t
  one_run (tasks.Big n) h x y = print (tasks.Big n) x y refl
  one_run (tasks.Run false looks workers) h x y = print (tasks.Run false looks workers) x y refl
  one_run (tasks.Run true looks workers) h x y = (
    stand (tasks.Run true looks workers) x y,
    inr (record { logs = tt; first = logged links looks workers log file v s x; second = logged links looks workers log file w t y }),
  )
  one_run (tasks.Replay l) h x y =
      let same : x.history ≡ y.history = one_history links links l log file x.history y.history x.core y.core x.has y.has in
      print (tasks.Replay l) x y (ap (λ (h : List LineAt). run_text (print_of (tasks.Replay l)) file h (end_of file)) same)
  one_run task h x y = absurd h

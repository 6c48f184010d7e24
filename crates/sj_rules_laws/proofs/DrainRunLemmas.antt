-- Each core run of an accepted file can be drained, and a drain ends at the end of the file.
use Rattle.std.proofs.Common.{ℕ, ◌+◌, ◌≤◌, List, [], ◌∷◌, ◌++◌, length, refl, arith, length-append}
use Rattle.sj_lang.specs.Place.{Place, done}
use Rattle.sj_lang.specs.FileAt.{FileAt}
use Rattle.sj_acceptance.specs.Accepted.{IsAccepted}
use Rattle.sj_semantics.specs.Program.{Program}
use Rattle.sj_semantics.specs.Run.{IsRun, end_of}
use Rattle.sj_rules.specs.Rows.{IsPick}
use Rattle.sj_rules.specs.World.{WorldAt, Turn, Run}
use Rattle.sj_rules.specs.Reading.{IsOpenKept}
use Rattle.sj_rules.specs.Drain.{turn, IsDrained}
use Rattle.sj_rules.specs.Events.{acts_in}
use Rattle.sj_rules.specs.History.{IsCoreRun, IsQuietAmong}
use Rattle.sj_rules.specs.Party.{IsDone, play_of, binds}
use Rattle.sj_rules.specs.Plain.{plain_at}
use Rattle.sj_rules.specs.Start.{core_start}
use Rattle.sj_rules_laws.specs.Limits.{limit_of_events}
use Rattle.sj_rules_laws.proofs.DrainEndLemmas.{run_joined, drained_is_run, drained_is_quiet}
use Rattle.sj_rules_laws.proofs.DrainExistsLemmas.{drain_exists}
use Rattle.sj_rules_laws.proofs.LimitLemmas.{run_front_fits}
use Rattle.sj_rules_laws.proofs.RunLawsLemmas.{quiet_run_ends}
use Rattle.sj_rules_laws.proofs.ShortRunLemmas.{runs_are_short}

module _ (file : FileAt) where
  -- a core run goes on
  pub run_goes_on : (core last : WorldAt Place Program) (turns more : List Turn) → IsCoreRun file turns core → Run (play_of file) core more last → IsCoreRun file (turns ++ more) last
  run_goes_on core last turns more run rest = run_joined (play_of file) (λ old told. old) (core_start file) core last turns more run rest

  -- by a drain
  pub drain_goes_on : (pick : ℕ → ℕ → ℕ) → IsPick pick → (turns more : List Turn) (core last : WorldAt Place Program) → IsCoreRun file turns core
      → IsDrained (play_of file) pick (length file.parties) core more last
      → IsCoreRun file (turns ++ more) last × IsQuietAmong (play_of file) (length file.parties) last
  drain_goes_on pick picks turns more core last run drained = (
    run_goes_on core last turns more run (drained_is_run (play_of file) pick picks (length file.parties) core last more drained),
    drained_is_quiet (play_of file) pick (length file.parties) core last more drained,
  )

  module _ (accepted : IsAccepted file) where
    -- to the end of the file
    pub drain_is_at_the_end : (pick : ℕ → ℕ → ℕ) → IsPick pick → (turns more : List Turn) (core last : WorldAt Place Program) → IsCoreRun file turns core
        → IsDrained (play_of file) pick (length file.parties) core more last
        → IsRun file (acts_in (turns ++ more)) (end_of file) × IsOpenKept IsDone binds done last (plain_at (end_of file))
    drain_is_at_the_end pick picks turns more core last run drained =
        let d = drain_goes_on pick picks turns more core last run drained in
        quiet_run_ends file accepted (turns ++ more) last d.0 d.1

    -- what goes on is still short
    pub further_is_short : (core last : WorldAt Place Program) (turns more : List Turn) → IsCoreRun file turns core → Run (play_of file) core more last → length turns + length more ≤ limit_of_events
    further_is_short core last turns more run rest =
        omega (arith, runs_are_short file accepted (turns ++ more) last (run_goes_on core last turns more run rest), length-append turns more)

    -- a world of a core run
    abbrev Reached : WorldAt Place Program → Type 0
    Reached w = (turns : List Turn) × IsCoreRun file turns w

    -- and a drain exists, however caches are trimmed
    pub run_drains : (pick : ℕ → ℕ → ℕ) → IsPick pick → (turns : List Turn) (core : WorldAt Place Program) → IsCoreRun file turns core
        → (more : List Turn) × (last : WorldAt Place Program) × IsDrained (play_of file) pick (length file.parties) core more last
    run_drains pick picks turns core run =
        drain_exists (play_of file) pick picks Reached
        (λ w v p event good h. (good.0 ++ turn p event ∷ [], run_goes_on w v good.0 (turn p event ∷ []) good.1 (v, (pick, picks, h), refl)))
        (λ w p q f rest good front. run_front_fits file accepted good.0 w good.1 pick p q f rest picks front)
        (length file.parties) limit_of_events core (turns, run) (λ v ts more. omega (arith, further_is_short core v turns ts run more))

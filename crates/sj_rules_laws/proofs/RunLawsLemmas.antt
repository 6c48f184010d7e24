-- Core runs of accepted files, with no premise left.
use Rattle.std.proofs.Common.{◌≡◌, ℕ, ◌<◌, List, length, Some, None, false, subst, arith}
use Rattle.sj_base.specs.declared.EndId.{EndId}
use Rattle.sj_lang.specs.Place.{Place, done}
use Rattle.sj_lang.specs.FileAt.{FileAt}
use Rattle.sj_acceptance.specs.Accepted.{IsAccepted}
use Rattle.sj_semantics.specs.Program.{Program}
use Rattle.sj_semantics.specs.World.{start_of, World}
use Rattle.sj_semantics.specs.State.{IsSettled}
use Rattle.sj_semantics.specs.Run.{IsRun, end_of}
use Rattle.sj_semantics_laws.proofs.FinishLemmas.{end_is_settled, end_is_reached}
use Rattle.sj_semantics_laws.proofs.RunLemmas.{same_end}
use Rattle.sj_semantics_laws.proofs.StartLemmas.{start_is_unshared}
use Rattle.sj_rules.specs.Rows.{Worked, IsPick}
use Rattle.sj_rules.specs.Node.{NodeAt, acts}
use Rattle.sj_rules.specs.World.{WorldAt, Turn}
use Rattle.sj_rules.specs.Halts.{halt_of}
use Rattle.sj_rules.specs.Reading.{IsOpenKept}
use Rattle.sj_rules.specs.Party.{IsDone, play_of, binds}
use Rattle.sj_rules.specs.Plain.{plain_at}
use Rattle.sj_rules.specs.Events.{acts_in}
use Rattle.sj_rules.specs.History.{IsCoreRun, IsQuietAmong, whole_caches}
use Rattle.sj_rules.specs.Record.{HeldAt, Held}
use Rattle.sj_rules.specs.HeldStands.{HeldStands}
use Rattle.sj_rules.specs.Spots.{LiesOnce, IsAtRest}
use Rattle.sj_rules_laws.proofs.KeptLemmas.{open_kept_stands, open_untaken}
use Rattle.sj_rules.specs.PlainChanges.{waits_of}
use Rattle.sj_rules.specs.PlainSide.{IsFront}
use Rattle.sj_rules_laws.proofs.SpotLemmas.{open_lies_once}
use Rattle.sj_rules_laws.proofs.RestLemmas.{comes_to_rest}
use Rattle.sj_rules_laws.proofs.CoreRunLemmas.{runs_stand, quiet_is_quiescent}
use Rattle.sj_rules_laws.proofs.HaltLemmas.{acts_unless_halted}
use Rattle.sj_rules_laws.proofs.LawfulLemmas.{run_is_lawful}
use Rattle.sj_rules_laws.proofs.QuietWorldLemmas.{quiet_is_settled}

-- whole caches are such a choice
pub whole_caches_pick : IsPick whole_caches
whole_caches_pick old told = (omega arith, omega arith)

module _ (file : FileAt) (accepted : IsAccepted file) where
  pub run_acts_unless_halted : (turns : List Turn) (core : WorldAt Place Program) (p : ℕ) → IsCoreRun file turns core → halt_of (play_of file) (core.nodes p) ≡ None
      → (done : Worked Place (NodeAt Place Program)) × (acts (play_of file) p (core.nodes p) ≡ Some done)
  run_acts_unless_halted turns core p run free =
      let s = runs_stand file accepted turns core run in
      let a = acts_unless_halted IsDone (play_of file) binds (length file.parties) core (plain_at s.plain) s.kept (run_is_lawful file (acts_in turns) s.plain accepted s.run) p free in
      (a.some, a.is)

  -- where nobody has anything to do, the plain world is the end of the file
  pub quiet_run_ends : (turns : List Turn) (core : WorldAt Place Program) → IsCoreRun file turns core → IsQuietAmong (play_of file) (length file.parties) core
      → IsRun file (acts_in turns) (end_of file) × IsOpenKept IsDone binds done core (plain_at (end_of file))
  quiet_run_ends turns core run quiet =
      let s = runs_stand file accepted turns core run in
      let settled : IsSettled s.plain = quiet_is_settled file (acts_in turns) s.plain core accepted s.run s.kept (quiet_is_quiescent file accepted (acts_in turns) core s quiet) in
      let l = end_is_reached file in
      let same : s.plain ≡ end_of file = same_end (start_of file) s.plain (end_of file) (acts_in turns) l.acts (start_is_unshared file accepted.within.connects) s.run l.leads settled (end_is_settled file) in
      (subst (λ (w : World). IsRun file (acts_in turns) w) same s.run, subst (λ (w : World). IsOpenKept IsDone binds done core (plain_at w)) same s.kept)

  pub run_lies_once : (turns : List Turn) (core : WorldAt Place Program) (e : EndId) → IsCoreRun file turns core → e.side < 2 → LiesOnce core e
  run_lies_once turns core e run low = let s = runs_stand file accepted turns core run in open_lies_once IsDone binds done core (plain_at s.plain) s.kept e low

  pub run_held_stands : (turns : List Turn) (core : WorldAt Place Program) → IsCoreRun file turns core
      → (w : World) × IsRun file (acts_in turns) w × ((p : ℕ) (e : EndId) (h : HeldAt Place) → e.side < 2 → ((plain_at w).sides e).offered ≡ false → (core.nodes p).main e ≡ Some (Held h) → HeldStands (plain_at w) e h)
  run_held_stands turns core run =
      let s = runs_stand file accepted turns core run in (s.plain, s.run, λ p e h low o there. open_kept_stands IsDone binds done core (plain_at s.plain) s.kept p e h low o there)

  pub run_untaken : (turns : List Turn) (core : WorldAt Place Program) → IsCoreRun file turns core
      → (w : World) × IsRun file (acts_in turns) w × ((p : ℕ) (e : EndId) (h : HeldAt Place) → e.side < 2 → (core.nodes p).main e ≡ Some (Held h) → IsFront h.untaken (waits_of (plain_at w) e))
  run_untaken turns core run =
      let s = runs_stand file accepted turns core run in (s.plain, s.run, λ p e h low there. open_untaken IsDone binds done core (plain_at s.plain) s.kept p e h low there)

  pub quiet_run_rests : (turns : List Turn) (core : WorldAt Place Program) (e : EndId) → IsCoreRun file turns core → IsQuietAmong (play_of file) (length file.parties) core → e.side < 2
      → IsAtRest core (plain_at (end_of file)) e
  quiet_run_rests turns core e run quiet low =
      let still = quiet_is_quiescent file accepted (acts_in turns) core (runs_stand file accepted turns core run) quiet in
      comes_to_rest IsDone binds done core (plain_at (end_of file)) (quiet_run_ends turns core run quiet).1 still.empty e low

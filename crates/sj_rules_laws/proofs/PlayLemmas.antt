-- In core runs of an accepted file another play of the file does what its own does.
use Rattle.std.proofs.Common.{◌≡◌, ℕ, ◌+◌, ◌<◌, List, [], ◌∷◌, ◌++◌, slice_get, Option, Some, option_map, option_and_then, refl, ap, sym, ◌∙◌, subst}
use Rattle.std.specs.Prelude.{◌==◌, if◌then◌else◌}
use Rattle.sj_base.specs.declared.EndId.{EndId}
use Rattle.sj_lang.specs.Place.{Place}
use Rattle.sj_lang.specs.FileAt.{FileAt}
use Rattle.sj_acceptance.specs.Accepted.{IsAccepted}
use Rattle.sj_semantics.specs.Program.{Program}
use Rattle.sj_rules.specs.Rows.{IsPick}
use Rattle.sj_rules.specs.Frames.{FrameAt, frames_for}
use Rattle.sj_rules.specs.Node.{Play, takes, acts}
use Rattle.sj_rules.specs.World.{WorldAt, Event, Act, Deliver, Turn, delivery_of, happens, after_event}
use Rattle.sj_rules.specs.Halts.{halt_of, halt_if, halt_by, is_at_end, at_end, worn}
use Rattle.sj_rules.specs.Party.{IsDone, play_of, binds}
use Rattle.sj_rules.specs.Plain.{plain_at}
use Rattle.sj_rules.specs.Premises.{FitsStep}
use Rattle.sj_rules.specs.Plays.{IsPlayOf}
use Rattle.sj_rules.specs.Events.{acts_in}
use Rattle.sj_rules.specs.Log.{LineAt, act_note}
use Rattle.sj_rules.specs.History.{IsCoreRun, IsLog, due, line_after}
use Rattle.sj_rules.specs.Posts.{front_done, event_done, posts_of, line_posts, all_posts, from_there}
use Rattle.sj_rules.proofs.PlayLemmas.{AgreeAt, acts_alike}
use Rattle.sj_rules_laws.proofs.CoreRunLemmas.{runs_stand}
use Rattle.sj_rules_laws.proofs.DrainRunLemmas.{run_goes_on}
use Rattle.sj_rules_laws.proofs.LawfulLemmas.{run_is_lawful}
use Rattle.sj_rules_laws.proofs.LimitLemmas.{core_run_known}

-- the file's own play is one
pub own_play : (file : FileAt) → IsPlayOf file (play_of file)
own_play file = record { next = λ place way m. refl; over = λ place. refl; wants = λ g. refl; goes = λ g m. refl; blank = refl; opened = λ g e. refl; worn = λ g. refl; parties = refl; fits = λ g m known. refl }

module _ (file : FileAt) (accepted : IsAccepted file) (play : Play Place Program) (same : IsPlayOf file play) where
  abbrev own : Play Place Program
  own = play_of file

  module _ (turns : List Turn) (core : WorldAt Place Program) (run : IsCoreRun file turns core) where
    -- the end from which a party takes is one of side 0 or 1
    takes_low : (p : ℕ) (e : EndId) (place : Place) → own.wants (core.nodes p).program ≡ takes e place → e.side < 2
    takes_low p e place want =
        let s = runs_stand file accepted turns core run in
        let lawful = run_is_lawful file (acts_in turns) s.plain accepted s.run in
        let fit = subst (FitsStep IsDone own binds (plain_at s.plain) p ((plain_at s.plain).programs p)) (sym (ap (λ (g : Program). own.wants g) (s.kept.kept.programs p)) ∙ want) (lawful.steps p) in
        (lawful.proper p e fit.bound).0

    -- the two agree on what a node of a core run asks
    pub agrees_at : (p : ℕ) → AgreeAt play own (core.nodes p)
    agrees_at p = record {
      next = same.next;
      over = same.over;
      wants = same.wants (core.nodes p).program;
      goes = same.goes (core.nodes p).program;
      opened = same.opened (core.nodes p).program;
      worn = same.worn (core.nodes p).program;
      fits = λ e place h m rest want there head.
          same.fits (core.nodes p).program m (core_run_known file accepted turns core run p e h 0 m (takes_low p e place want) there (ap (λ ms. slice_get ms 0) head));
    }

    pub acts_same : (p : ℕ) → acts play p (core.nodes p) ≡ acts own p (core.nodes p)
    acts_same p = acts_alike play own p (core.nodes p) (agrees_at p)

    pub halts_same : (p : ℕ) → halt_of play (core.nodes p) ≡ halt_of own (core.nodes p)
    halts_same p =
        ap (λ want. halt_if (is_at_end want) at_end (halt_if (play.is_worn (core.nodes p).program) worn (halt_by (core.nodes p) want))) (same.wants (core.nodes p).program)
        ∙ ap (λ b. halt_if (is_at_end (own.wants (core.nodes p).program)) at_end (halt_if b worn (halt_by (core.nodes p) (own.wants (core.nodes p).program)))) (same.worn (core.nodes p).program)

    happens_same : (pick : ℕ → ℕ → ℕ) (p : ℕ) (event : Event) → happens play pick core p event ≡ happens own pick core p event
    happens_same pick p Act = ap (option_map (after_event core p ((core.nodes p).clock + 1) core.lanes)) (acts_same p)
    happens_same pick p (Deliver q) = ap (λ b. came_by b play.parties (core.lanes q p)) same.blank ∙ ap (λ k. came_by own.blank k (core.lanes q p)) same.parties
      where
        came_by : Place → ℕ → List (FrameAt Place) → Option (WorldAt Place Program)
        came_by b k l = delivery_of (record own { blank = b; parties = k }) pick core p q l

    lines_same : (p : ℕ) (event : Event) (v : WorldAt Place Program) → line_after play core p event v ≡ line_after own core p event v
    lines_same p Act v =
        ap (λ want. option_map (λ note. record { party = p; entry = record { clock = (v.nodes p).clock; event = Act; note = note } }) (act_note p (core.nodes p) want)) (same.wants (core.nodes p).program)
    lines_same p (Deliver q) v = refl

    -- where there is a world after the event, the line is the same
    due_same : (pick : ℕ → ℕ → ℕ) (p : ℕ) (event : Event) (v : WorldAt Place Program) → happens play pick core p event ≡ Some v → due play pick core p event ≡ due own pick core p event
    due_same pick p event v h =
        ap (option_and_then (line_after play core p event)) h ∙ lines_same p event v
        ∙ sym (ap (option_and_then (line_after own core p event)) (sym (happens_same pick p event) ∙ h))

    done_same : (pick : ℕ → ℕ → ℕ) (p : ℕ) (event : Event) → event_done play pick core p event ≡ event_done own pick core p event
    done_same pick p Act = acts_same p
    done_same pick p (Deliver q) =
        ap (λ b. front_done (record own { blank = b; parties = play.parties }) pick (core.nodes p) q (core.lanes q p)) same.blank
        ∙ ap (λ k. front_done (record own { parties = k }) pick (core.nodes p) q (core.lanes q p)) same.parties

  -- the run goes on by one event
  goes_on : (pick : ℕ → ℕ → ℕ) → IsPick pick → (turns : List Turn) (core v : WorldAt Place Program) (p : ℕ) (event : Event) → (run : IsCoreRun file turns core) → happens play pick core p event ≡ Some v
      → IsCoreRun file (turns ++ record { party = p; event = event } ∷ []) v
  goes_on pick picks turns core v p event run h =
      run_goes_on file core v turns (record { party = p; event = event } ∷ []) run (v, (pick, picks, sym (happens_same turns core run pick p event) ∙ h), refl)

  -- a log by the one is a log by the other
  pub log_same : (pick : ℕ → ℕ → ℕ) → IsPick pick → (turns : List Turn) (core v : WorldAt Place Program) (lines : List LineAt) → IsCoreRun file turns core
      → IsLog play pick core lines v → IsLog own pick core lines v
  log_same pick picks turns core v [] run a = a
  log_same pick picks turns core v (l ∷ ls) run a = (
    a.0,
    sym (happens_same turns core run pick l.party l.entry.event) ∙ a.1,
    sym (due_same turns core run pick l.party l.entry.event a.0 a.1) ∙ a.2,
    log_same pick picks (turns ++ record { party = l.party; event = l.entry.event } ∷ []) a.0 v ls (goes_on pick picks turns core a.0 l.party l.entry.event run a.1) a.3,
  )

  -- and its events post the same
  pub posts_same : (pick : ℕ → ℕ → ℕ) → IsPick pick → (p q : ℕ) (turns : List Turn) (core v : WorldAt Place Program) (lines : List LineAt) → IsCoreRun file turns core
      → IsLog play pick core lines v → all_posts play pick p q lines core ≡ all_posts own pick p q lines core
  posts_same pick picks p q turns core v [] run a = refl
  posts_same pick picks p q turns core v (l ∷ ls) run a =
      let own_step : happens own pick core l.party l.entry.event ≡ Some a.0 = sym (happens_same turns core run pick l.party l.entry.event) ∙ a.1 in
      let later = posts_same pick picks p q (turns ++ record { party = l.party; event = l.entry.event } ∷ []) a.0 v ls (goes_on pick picks turns core a.0 l.party l.entry.event run a.1) a.3 in
      ap (λ o. line_posts play pick core l p q ++ from_there (all_posts play pick p q ls) o) a.1
      ∙ ap (λ d. (if p == l.party then frames_for q l.entry.clock (posts_of d) else []) ++ all_posts play pick p q ls a.0) (done_same turns core run pick l.party l.entry.event)
      ∙ ap (λ fs. line_posts own pick core l p q ++ fs) later
      ∙ sym (ap (λ o. line_posts own pick core l p q ++ from_there (all_posts own pick p q ls) o) own_step)

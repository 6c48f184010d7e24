-- Core runs of accepted files are short: each act brings at most a fixed number of events.
use Rattle.std.proofs.Common.{◌≡◌, ℕ, ◌+◌, ◌*◌, ◌<◌, ◌≤◌, ◌==◌, Bool, true, false, cond, max, List, [], ◌∷◌, ◌++◌, length, Option, Some, None, option_and_then, refl, ap, sym, ◌∙◌, arith, length-append}
use Rattle.std.proofs.lemmas.List.{length-map}
use Rattle.sj_base.specs.declared.EndId.{EndId}
use Rattle.sj_lang.specs.Place.{Place, done}
use Rattle.sj_lang.specs.FileAt.{FileAt, ConnectAt, party_named}
use Rattle.sj_acceptance.specs.Accepted.{IsAccepted}
use Rattle.sj_semantics.specs.declared.Passed.{Passed}
use Rattle.sj_semantics.specs.Ends.{end_at}
use Rattle.sj_semantics.specs.Program.{Program}
use Rattle.sj_rules.specs.Record.{Held}
use Rattle.sj_rules.specs.Node.{acts, arrives}
use Rattle.sj_rules.proofs.ArrivalLemmas.{proper_comes, arrived_proper}
use Rattle.sj_rules.specs.Frames.{FrameAt}
use Rattle.sj_rules.specs.World.{WorldAt, Event, Act, Deliver, Turn, Run, happens, after_event, delivery_of, with_lane}
use Rattle.sj_rules.specs.PlainSide.{PlainSide}
use Rattle.sj_rules.specs.Party.{IsDone, play_of, binds}
use Rattle.sj_rules.specs.Plain.{plain_at}
use Rattle.sj_rules.specs.Events.{acts_by, acts_in}
use Rattle.sj_rules.specs.Start.{core_start, connect_of, held_by, first_held, declared_on}
use Rattle.sj_rules.specs.History.{IsCoreRun}
use Rattle.sj_rules_laws.specs.Limits.{limit_of_sent, limit_of_events_for_act, limit_of_events}
use Rattle.sj_rules_laws.proofs.SideLemmas.{side_below}
use Rattle.sj_rules_laws.proofs.WithinRowLemmas.{by_map}
use Rattle.sj_rules_laws.proofs.CountLemmas.{few_messages, run_is_counted}
use Rattle.sj_rules_laws.proofs.ProperRunLemmas.{run_is_proper}
use Rattle.sj_rules_laws.proofs.CoreRunLemmas.{StandsAfter, runs_stand, run_stands}
use Rattle.sj_rules_laws.proofs.FewActsLemmas.{few_acts}
use Rattle.sj_rules_laws.proofs.LedgerLemmas.{total}
use Rattle.sj_rules_laws.proofs.NodeWeightLemmas.{late_of}
use Rattle.sj_rules_laws.proofs.KeyLemmas.{Credits}
use Rattle.sj_rules_laws.proofs.CoverLemmas.{Covers, act_covered, delivery_covered}
use Rattle.sj_rules_laws.proofs.FewCachedLemmas.{open_front_meets_few}

-- ---- the start

-- nothing is deferred there
none_late : (file : FileAt) (n p : ℕ) (e : EndId) (o : Option ConnectAt) → late_of n (option_and_then (held_by file p e) o) ≡ 0
none_late file n p e None = refl
none_late file n p e (Some c) = by (p == party_named file.parties (declared_on e.side c).party)
  where
    by : (b : Bool) → late_of n (cond b (Some (Held (first_held file e c))) None) ≡ 0
    by true = refl
    by false = refl

-- an empty ledger covers the start
start_covered : (file : FileAt) (n : ℕ) → Covers n [] (core_start file)
start_covered file n = record { lanes = λ from to. omega arith; lates = λ p e. omega (arith, none_late file n p e (connect_of file e)) }

-- ---- an event

-- a ledger for the world after it, which is lower by one but for an act
record Goes (after : WorldAt Place Program) (l : Credits) (acted : ℕ) : Type 0 where
  ledger : Credits
  covers : Covers limit_of_sent ledger after
  few : total ledger + 1 ≤ total l + limit_of_events_for_act * acted

module _ (file : FileAt) (accepted : IsAccepted file) where
  -- sixteen parties send no more messages than this
  few_sent : (ps : List ℕ) (core : WorldAt Place Program) → (s : StandsAfter file ps core) → (e : EndId) → e.side < 2 → length ((plain_at s.plain).sides e).sent ≤ limit_of_sent
  few_sent ps core s e lt =
      omega (
        arith,
        accepted.within.parties,
        (run_is_proper file ps s.plain accepted s.run).many,
        ap (λ (x : PlainSide Place). length x.sent) (side_below s.plain.requests s.plain.sessions e lt),
        length-map (end_at s.plain.sessions e).sent (λ (x : Passed). x.msg),
        few_messages s.plain e (run_is_counted file ps s.plain s.run),
      )

  module _ (pick : ℕ → ℕ → ℕ) (ps : List ℕ) (core : WorldAt Place Program) (s : StandsAfter file ps core) (l : Credits) (c : Covers limit_of_sent l core) where
    -- a delivery
    delivery_goes : (p q : ℕ) (after : WorldAt Place Program) (frames : List (FrameAt Place)) → core.lanes q p ≡ frames → delivery_of (play_of file) pick core p q frames ≡ Some after → Goes after l 0
    delivery_goes p q after [] front h = cc
    delivery_goes p q after (f ∷ rest) front h =
        let clock : ℕ = max (core.nodes p).clock f.clock + 1 in
        by_map (λ (v : WorldAt Place Program). Goes v l 0) (after_event core p clock (with_lane q p rest core.lanes)) (arrives done (length file.parties) pick (core.nodes p) q f) after h (λ left came.
        let meets = open_front_meets_few IsDone binds done core (plain_at s.plain) s.kept limit_of_sent (few_sent ps core s) p q f rest front in
        let d = delivery_covered limit_of_sent done pick core p q clock f rest l left c front meets (sym (proper_comes done (length file.parties) pick (core.nodes p) q f (arrived_proper done (length file.parties) pick (core.nodes p) q f left came)) ∙ came) in
        record { ledger = d.0.ledger; covers = d.0.covers; few = omega (arith, d.1) })

    -- an act
    act_goes : (p : ℕ) (after : WorldAt Place Program) → happens (play_of file) pick core p Act ≡ Some after → Goes after l 1
    act_goes p after h =
        by_map (λ (v : WorldAt Place Program). Goes v l 1) (after_event core p ((core.nodes p).clock + 1) core.lanes) (acts (play_of file) p (core.nodes p)) after h (λ done acted.
        let d = act_covered limit_of_sent (play_of file) core p l done c acted in
        record { ledger = d.ledger; covers = d.covers; few = omega (arith, d.few) })

    -- an event
    event_goes : (p : ℕ) (event : Event) (after : WorldAt Place Program) → happens (play_of file) pick core p event ≡ Some after → Goes after l (length (acts_by event p))
    event_goes p Act after h = act_goes p after h
    event_goes p (Deliver q) after h = delivery_goes p q after (core.lanes q p) refl h

  -- ---- runs

  -- a run from a world that is covered
  short_from : (ps : List ℕ) (core after : WorldAt Place Program) (turns : List Turn) (l : Credits) → StandsAfter file ps core → Covers limit_of_sent l core → Run (play_of file) core turns after
      → length turns ≤ total l + limit_of_events_for_act * length (acts_in turns)
  short_from ps core after [] l s c run = omega arith
  short_from ps core after (t ∷ ts) l s c run =
      let step = run.1 in
      let g = event_goes step.0 ps core s l c t.party t.event run.0 step.2 in
      let later : Run (play_of file) core (t ∷ []) run.0 = (run.0, step, refl) in
      let next = run_stands file accepted core run.0 ps (t ∷ []) s later in
      let rest = short_from (ps ++ acts_in (t ∷ [])) run.0 after ts g.ledger next g.covers run.2 in
      omega (arith, g.few, rest, length-append (acts_by t.event t.party) (acts_in ts))

  -- a core run has few events for each act
  pub short_for_acts : (turns : List Turn) (core : WorldAt Place Program) → IsCoreRun file turns core → length turns ≤ limit_of_events_for_act * length (acts_in turns)
  short_for_acts turns core run =
      let none : IsCoreRun file [] (core_start file) = refl in
      omega (arith, short_from [] (core_start file) core turns [] (runs_stand file accepted [] (core_start file) none) (start_covered file limit_of_sent) run)

  -- and so it has few
  pub runs_are_short : (turns : List Turn) (core : WorldAt Place Program) → IsCoreRun file turns core → length turns ≤ limit_of_events
  runs_are_short turns core run = omega (arith, short_for_acts turns core run, few_acts file accepted turns core run, accepted.within.parties)

-- Runs of accepted files are short, so drains exist.
use Rattle.sj_forward_laws.proofs.StepLemmas.{IsDone, IsIdle, party_acts}
use Rattle.sj_forward_laws.proofs.FrontLemmas.{front_delivered}
use Rattle.std.proofs.Common.{◌≡◌, ℕ, ◌+◌, ◌*◌, ◌≤◌, List, [], ◌∷◌, ◌++◌, length, Some, None, option_map, refl, sym, subst, ap, ◌∙◌, arith}
use Rattle.std.proofs.Common.{inl, inr, ◌⊎◌, length-append}
use Rattle.sj_lang.specs.FileAt.{FileAt}
use Rattle.sj_acceptance.specs.Accepted.{IsAccepted}
use Rattle.sj_semantics.specs.Program.{Program}
use Rattle.sj_semantics.specs.World.{World, act_of, start_of}
use Rattle.sj_semantics.specs.Run.{after_acts}
use Rattle.sj_semantics_laws.proofs.RunLemmas.{between}
use Rattle.sj_semantics_laws.proofs.RoundLemmas.{left_in, left_in-act}
use Rattle.sj_semantics_laws.proofs.FinishLemmas.{left_at_start}
use Rattle.sj_rules.specs.Drain.{turn}
use Rattle.sj_rules.specs.Events.{acts_by, acts_in}
use Rattle.sj_rules.specs.Limits.{limit_of_messages}
use Rattle.sj_rules.specs.Party.{IsDone as IsOver, play_of, binds}
use Rattle.sj_rules.specs.Plain.{plain_at}
use Rattle.sj_rules.specs.World.{Event, Act, Deliver, Turn}
use Rattle.sj_rules_laws.proofs.LawfulLemmas.{run_is_lawful}
use Rattle.sj_rules_laws.proofs.LedgerLemmas.{total}
use Rattle.sj_rules_laws.proofs.KeyLemmas.{Credits}
use Rattle.sj_forward_rules.specs.Record.{FrameAt}
use Rattle.sj_forward_rules.specs.World.{WorldAt, Run, happens, after_event, with_lane, delivery_of}
use Rattle.sj_forward_rules.specs.Drain.{IsDrained}
use Rattle.sj_forward_rules.specs.Start.{forward_start, IsForwardRun}
use Rattle.sj_forward_laws.specs.Limits.{limit_of_events_for_act, limit_of_events}
use Rattle.sj_forward_laws.proofs.CoverLemmas.{Covers, act_covered, delivery_covered}
use Rattle.sj_forward_laws.proofs.FewLemmas.{front_meets_few}
use Rattle.sj_forward_laws.proofs.RunLemmas.{StandsAfter, same_world, run_stands, runs_stand}
use Rattle.sj_forward_laws.proofs.RunLawsLemmas.{run_front}
use Rattle.sj_forward_laws.proofs.DrainEndLemmas.{run_joined}
use Rattle.sj_forward_laws.proofs.DrainExistsLemmas.{drain_exists}

left_after : (w v : World) (ps : List ℕ) → after_acts w ps ≡ Some v → left_in v + length ps ≡ left_in w
left_after w v [] h = (let it : w ≡ v = cc in omega (arith, ap left_in it))
left_after w v (p ∷ ps) h =
    let m = between (λ u. after_acts u ps) (act_of w p) v h in
    omega (arith, left_in-act w m.world p m.before, left_after m.world v ps m.afterwards)

-- a ledger for the world after an event, which is lower by one but for an act
record Goes (after : WorldAt Program) (l : Credits) (acted : ℕ) : Type 0 where
  ledger : Credits
  covers : Covers limit_of_messages ledger after
  few : total ledger + 1 ≤ total l + limit_of_events_for_act * acted

module _ (file : FileAt) (accepted : IsAccepted file) where
  few_acts : (turns : List Turn) (w : WorldAt Program) → IsForwardRun file turns w → length (acts_in turns) ≤ 10000 * length file.parties
  few_acts turns w run =
      let s = runs_stand file accepted turns w run in
      omega (arith, left_after (start_of file) s.plain (acts_in turns) s.run, left_at_start file 0 file.parties)

  module _ (ps : List ℕ) (w : WorldAt Program) (s : StandsAfter file ps w) (l : Credits) (c : Covers limit_of_messages l w) where
    act_goes : (p : ℕ) (v : WorldAt Program) → happens (play_of file) w p Act ≡ Some v → Goes v l 1
    act_goes p v h =
        by (party_acts IsOver (play_of file) binds (length file.parties) refl w (plain_at s.plain) s.kept
        (run_is_lawful file ps s.plain accepted s.run) p)
      where
        by : IsDone IsOver (play_of file) binds (length file.parties) w (plain_at s.plain) p
            ⊎ IsIdle (play_of file) (length file.parties) w (plain_at s.plain) p → Goes v l 1
        by (inl d) =
            let k = act_covered limit_of_messages w p l d.done c d.light in
            let same : after_event w p w.lanes d.done ≡ v =
            same_world (after_event w p w.lanes d.done) v (sym (ap (option_map (after_event w p w.lanes)) d.is) ∙ h) in
            record { ledger = k.0.ledger; covers = subst (λ x. Covers limit_of_messages k.0.ledger x) same k.0.covers; few = omega (arith, k.1) }
        by (inr i) = absurd (let none : happens (play_of file) w p Act ≡ None = ap (option_map (after_event w p w.lanes)) i.is in cc (h, none))

    delivery_goes : (p q : ℕ) (v : WorldAt Program) → happens (play_of file) w p (Deliver q) ≡ Some v → Goes v l 0
    delivery_goes p q v h = by (w.lanes q p) refl
      where
        by : (fs : List FrameAt) → w.lanes q p ≡ fs → Goes v l 0
        by [] front = absurd (let none : happens (play_of file) w p (Deliver q) ≡ None = ap (λ fs. delivery_of w p q fs) front in cc (h, none))
        by (f ∷ rest) front =
            let d = front_delivered IsOver (play_of file) binds (length file.parties) w (plain_at s.plain) s.kept q p f rest front in
            let few =
            front_meets_few IsOver (play_of file) binds (length file.parties) w (plain_at s.plain) s.kept.kept
            (run_is_lawful file ps s.plain accepted s.run) q p f d.rest d.front in
            let k = delivery_covered limit_of_messages w p q f d.rest l d.done c d.front few d.is in
            let same : after_event w p (with_lane q p d.rest w.lanes) d.done ≡ v =
            same_world (after_event w p (with_lane q p d.rest w.lanes) d.done) v (sym d.happened ∙ h) in
            record { ledger = k.0.ledger; covers = subst (λ x. Covers limit_of_messages k.0.ledger x) same k.0.covers; few = omega (arith, k.1) }

    event_goes : (p : ℕ) (event : Event) (v : WorldAt Program) → happens (play_of file) w p event ≡ Some v → Goes v l (length (acts_by event p))
    event_goes p Act v h = act_goes p v h
    event_goes p (Deliver q) v h = delivery_goes p q v h

  short_from : (ps : List ℕ) (w v : WorldAt Program) (turns : List Turn) (l : Credits) → StandsAfter file ps w → Covers limit_of_messages l w
      → Run (play_of file) w turns v
      → length turns ≤ total l + limit_of_events_for_act * length (acts_in turns)
  short_from ps w v [] l s c run = omega arith
  short_from ps w v (t ∷ ts) l s c run =
      let g = event_goes ps w s l c t.party t.event run.0 run.1 in
      let later : Run (play_of file) w (t ∷ []) run.0 = (run.0, run.1, refl) in
      let next = run_stands file accepted w run.0 ps (t ∷ []) s later in
      let rest = short_from (ps ++ acts_in (t ∷ [])) run.0 v ts g.ledger next g.covers run.2 in
      omega (arith, g.few, rest, length-append (acts_by t.event t.party) (acts_in ts))

  -- a run has few events
  pub runs_are_short : (turns : List Turn) (w : WorldAt Program) → IsForwardRun file turns w → length turns ≤ limit_of_events
  runs_are_short turns w run =
      let none : IsForwardRun file [] (forward_start file) = refl in
      let covered : Covers limit_of_messages [] (forward_start file) = record { lanes = λ from to. omega arith } in
      omega (
        arith,
        short_from [] (forward_start file) w turns [] (runs_stand file accepted [] (forward_start file) none) covered run,
        few_acts
            turns w run,
        accepted.within.parties,
      )

  run_goes_on : (w last : WorldAt Program) (turns more : List Turn) → IsForwardRun file turns w → Run (play_of file) w more last
      → IsForwardRun file (turns ++ more) last
  run_goes_on w last turns more run rest = run_joined (play_of file) (forward_start file) w last turns more run rest

  further_is_short : (w last : WorldAt Program) (turns more : List Turn) → IsForwardRun file turns w → Run (play_of file) w more last
      → length turns + length more ≤ limit_of_events
  further_is_short w last turns more run rest =
      omega (arith, runs_are_short (turns ++ more) last (run_goes_on w last turns more run rest), length-append turns more)

  -- a world of a run
  abbrev Reached : WorldAt Program → Type 0
  Reached w = (turns : List Turn) × IsForwardRun file turns w

  -- each run has a drain
  pub run_drains : (turns : List Turn) (w : WorldAt Program) → IsForwardRun file turns w → (more : List Turn) × (last : WorldAt Program)
      × IsDrained (play_of file) (length file.parties) w more last
  run_drains turns w run =
      drain_exists (play_of file) Reached
      (λ w v p event good h. (good.0 ++ turn p event ∷ [], run_goes_on w v good.0 (turn p event ∷ []) good.1 (v, h, refl)))
      (λ w p q f rest good front. (_, (run_front file accepted good.0 w p q f rest good.1 front).1.happened))
      (length file.parties) limit_of_events w (turns, run) (λ v ts more. omega (arith, further_is_short w v turns ts run more))

-- What is said of the worlds of runs: what is on its way, which events are steps, and where a drain
-- ends.
use Rattle.sj_forward_laws.proofs.StepLemmas.{IsDone, IsIdle, party_acts}
use Rattle.sj_forward_laws.proofs.FrontLemmas.{IsDelivered, front_delivered}
use Rattle.sj_forward_rules.specs.Acts.{acts}
use Rattle.sj_forward_rules.specs.Ready.{state_at, is_ready, is_filled, has_step}
use Rattle.sj_forward_rules.specs.Node.{Worked}
use Rattle.std.specs.Prelude.{◌↔◌}
use Rattle.sj_forward_rules.specs.Drain.{IsDrained}
use Rattle.sj_forward_laws.proofs.DrainEndLemmas.{run_joined, drained_is_run, drained_is_quiet}
use Rattle.sj_rules.specs.Moves.{plain_act}
use Rattle.std.proofs.Common.{◌≡◌, ℕ, zero, suc, arith, List, [], ◌∷◌, ◌++◌, length, Option, Some, None, option_map, refl}
use Rattle.std.proofs.Common.{ap, sym, ◌∙◌, subst, inl, inr}
use Rattle.std.specs.Prelude.{◌⊎◌, ◌≤◌, true, false}
use Rattle.sj_lang.specs.Place.{Place}
use Rattle.sj_lang.specs.FileAt.{FileAt, ConnectAt}
use Rattle.sj_acceptance.specs.Accepted.{IsAccepted}
use Rattle.sj_semantics.specs.Program.{Program}
use Rattle.sj_semantics.specs.World.{World, act_of, start_of}
use Rattle.sj_semantics.specs.Run.{IsRun}
use Rattle.sj_rules.specs.World.{Event, Act, Deliver, Turn}
use Rattle.sj_rules.specs.PlainSide.{PlainAt}
use Rattle.sj_rules.specs.Party.{IsDone as IsOver, play_of, binds}
use Rattle.sj_rules.specs.Plain.{plain_at}
use Rattle.sj_rules.specs.Events.{acts_in}
use Rattle.sj_rules_laws.proofs.LawfulLemmas.{run_is_lawful, run_acts_are_seen}
use Rattle.sj_forward_rules.specs.World.{WorldAt, after_event, delivery_of, happens, IsQuietAmong}
use Rattle.sj_forward_laws.specs.Kept.{IsOpenKept}
use Rattle.sj_forward_rules.specs.Start.{home_by, forward_start, IsForwardRun}
use Rattle.sj_forward_laws.proofs.StartLemmas.{home_has, start_is_open_kept}
use Rattle.sj_forward_laws.proofs.HomeLemmas.{opened_at_home, run_has}
use Rattle.sj_forward_laws.proofs.OpenedRecords.{none_opened}
use Rattle.sj_forward_laws.proofs.StayLemmas.{run_stays}
use Rattle.sj_forward_rules.specs.Node.{HasRecord}
use Rattle.sj_rules.specs.Start.{connect_of}
use Rattle.sj_forward_laws.proofs.ActLemmas.{held_here}
use Rattle.sj_forward_laws.specs.Layout.{IsLaidOut}
use Rattle.std.specs.Prelude.{◌<◌, map, drop}
use Rattle.sj_base.specs.declared.EndId.{EndId}
use Rattle.sj_semantics.specs.Ends as semantics
use Rattle.sj_semantics.specs.Ends.{end_at, untaken_for}
use Rattle.sj_semantics.specs.Run.{end_of}
use Rattle.sj_rules.specs.Record.{other_end}
use Rattle.sj_rules.specs.Plain.{plain_side}
use Rattle.sj_rules.specs.PlainSide.{PlainSide, untaken_of}
use Rattle.sj_rules.specs.PlainChanges.{waits_of}
use Rattle.sj_rules_laws.proofs.SideLemmas.{side_below, other_side_below, other_end_is, drop-map}
use Rattle.sj_forward_rules.specs.Record.{FrameAt, SentAt, StateAt}
use Rattle.sj_forward_laws.specs.Roads.{Chains}
use Rattle.sj_forward_laws.specs.Pipe.{pipe}
use Rattle.sj_forward_laws.proofs.RunLemmas.{StandsAfter, acted_by, runs_stand, quiet_run_ends}
use Rattle.sj_semantics.specs.State.{state_of}
use Rattle.sj_semantics.specs.declared.State.TheVariants as states
use Rattle.sj_semantics_laws.proofs.StateLemmas.{act_is_ready}

-- a run has one end
one_end : (v u : World) → ◌≡◌ {A = Option World} (Some v) (Some u) → v ≡ u
one_end v u e = cc e

-- what the rules see waiting is untaken
waits_untaken : (v : World) (e : EndId) → e.side < 2 → waits_of (plain_at v) e ≡ untaken_for v.sessions e
waits_untaken v e low =
    ap (λ (x : PlainSide Place). untaken_of (plain_side v.requests v.sessions (other_end e)) x) (side_below v.requests v.sessions e low)
    ∙ ap (λ (x : PlainSide Place). drop (length (end_at v.sessions e).takers) x.sent)
    (side_below v.requests v.sessions (other_end e) (other_side_below e))
    ∙ ap (λ d. drop (length (end_at v.sessions e).takers) (map (λ x. x.msg) (end_at v.sessions d).sent)) (other_end_is e)
    ∙ drop-map (λ x. x.msg) (length (end_at v.sessions e).takers) (end_at v.sessions (semantics.other_end e)).sent

module _ (file : FileAt) (accepted : IsAccepted file) where
  -- where the records of a run lie
  laid_out : (turns : List Turn) (w : WorldAt Program) → IsForwardRun file turns w → (s : StandsAfter file (acts_in turns) w)
      → IsLaidOut file w s.plain.requests s.kept.kept.chains s.kept.kept.states
  laid_out turns w run s = record {
    joined = s.kept.kept.joined;
    home = home_is;
    there = λ e x h low is le. has_there e x h low is le;
    homes = opened_at_home file w s.plain s.kept (run_has file accepted (forward_start file) w [] turns begun (none_opened file) run s.plain s.run);
    in_use = λ p e b.
        let held =
        held_here IsOver binds (length file.parties) w (plain_at s.plain) s.kept.kept p e
        (subst (λ (g : Program). binds g e ≡ true) (s.kept.kept.programs p) b) in
        record { below = held.low; at = held.at; untaken = held.held.untaken; is = held.held.is; found = held.found };
  }
    where
      begun : StandsAfter file [] (forward_start file)
      begun = record { plain = start_of file; run = refl; kept = start_is_open_kept file accepted }

      at_home : (e : EndId) (x : ConnectAt) → connect_of file e ≡ Some x → HasRecord (w.nodes (home_by file e x)) e 0
      at_home e x is = run_stays (play_of file) e 0 (home_by file e x) (forward_start file) w turns run (home_has file e x is)

      home_is : (e : EndId) (x : ConnectAt) → e.side < 2 → connect_of file e ≡ Some x → s.kept.kept.chains.at e 0 ≡ home_by file e x
      home_is e x low is = let has = at_home e x is in (s.kept.kept.joined.alone e 0 (home_by file e x) has.0 low has.1).1

      has_there : (e : EndId) (x : ConnectAt) (h : ℕ) → e.side < 2 → connect_of file e ≡ Some x → h ≤ s.kept.kept.chains.top e
          → HasRecord (w.nodes (s.kept.kept.chains.at e h)) e h
      has_there e x zero low is le = subst (λ (p : ℕ). HasRecord (w.nodes p) e 0) (sym (home_is e x low is)) (at_home e x is)
      has_there e x (suc h) low is le = s.kept.kept.joined.there e (suc h) low (omega arith) le

  pub run_untaken : (turns : List Turn) (w : WorldAt Program) (v : World) → IsForwardRun file turns w → IsRun file (acts_in turns) v
      → (c : Chains) × (states : EndId → ℕ → StateAt) × IsLaidOut file w v.requests c states
      × ((e : EndId) → e.side < 2 → map (λ (m : SentAt). m.msg) (pipe w.lanes c states e) ≡ untaken_for v.sessions e)
  run_untaken turns w v run plain_run =
      let s = runs_stand file accepted turns w run in
      let same : s.plain ≡ v = one_end s.plain v (sym s.run ∙ plain_run) in (
        s.kept.kept.chains,
        s.kept.kept.states,
        subst (λ (x : World). IsLaidOut file w x.requests s.kept.kept.chains s.kept.kept.states) same (laid_out turns w run s),
        λ e low. s.kept.kept.waits e low ∙ waits_untaken s.plain e low ∙ ap (λ (x : World). untaken_for x.sessions e) same,
      )

  pub run_ready : (turns : List Turn) (w : WorldAt Program) (p : ℕ) → IsForwardRun file turns w
      → ((done : Worked Program) × (acts (play_of file) p (w.nodes p) ≡ Some done)) ↔ (is_ready (state_at (play_of file) (w.nodes p)) ≡ true)
  run_ready turns w p run =
      let s = runs_stand file accepted turns w run in
      by (party_acts IsOver (play_of file) binds (length file.parties) refl w (plain_at s.plain) s.kept
      (run_is_lawful file (acts_in turns) s.plain accepted s.run) p)
    where
      by : {plain : PlainAt Place Program} → IsDone IsOver (play_of file) binds (length file.parties) w plain p
          ⊎ IsIdle (play_of file) (length file.parties) w plain p
          → ((done : Worked Program) × (acts (play_of file) p (w.nodes p) ≡ Some done)) ↔ (is_ready (state_at (play_of file) (w.nodes p)) ≡ true)
      by (inl d) = (λ some. d.ready, λ ready. (d.done, d.is))
      by (inr i) = (λ some. absurd (let none = i.is in let one = some.1 in cc (none, one)), λ ready. absurd (let no = i.unready in cc (ready, no)))

  -- a party that is ready by what it holds is ready in the plain world
  pub run_ready_plain : (turns : List Turn) (w : WorldAt Program) (v : World) (p : ℕ) → IsForwardRun file turns w → IsRun file (acts_in turns) v
      → is_ready (state_at (play_of file) (w.nodes p)) ≡ true → state_of v p ≡ states.Ready
  run_ready_plain turns w v p run plain_run ready =
      let s = runs_stand file accepted turns w run in
      let same : s.plain ≡ v = one_end s.plain v (sym s.run ∙ plain_run) in
      subst (λ (x : World). state_of x p ≡ states.Ready) same
      (by s.plain (run_acts_are_seen file (acts_in turns) s.plain p accepted s.run)
      (party_acts IsOver (play_of file) binds (length file.parties) refl w (plain_at s.plain) s.kept
      (run_is_lawful file (acts_in turns) s.plain accepted s.run) p))
    where
      by : (plain : World) → plain_act (play_of file) (plain_at plain) p ≡ option_map plain_at (act_of plain p)
          → IsDone IsOver (play_of file) binds (length file.parties) w (plain_at plain) p
          ⊎ IsIdle (play_of file) (length file.parties) w (plain_at plain) p
          → state_of plain p ≡ states.Ready
      by plain seen (inl d) =
          let acted = acted_by plain p d.next (act_of plain p) refl (sym seen ∙ d.plain_is) in
          act_is_ready plain acted.after p acted.is
      by plain seen (inr i) = absurd (let no = i.unready in cc (ready, no))

  pub run_front : (turns : List Turn) (w : WorldAt Program) (p q : ℕ) (f : FrameAt) (rest : List FrameAt) → IsForwardRun file turns w
      → w.lanes q p ≡ f ∷ rest
      → (s : StandsAfter file (acts_in turns) w) × IsDelivered IsOver (play_of file) binds (length file.parties) w (plain_at s.plain) q p f
  run_front turns w p q f rest run front =
      let s = runs_stand file accepted turns w run in
      (s, front_delivered IsOver (play_of file) binds (length file.parties) w (plain_at s.plain) s.kept q p f rest front)

  -- an event is a step exactly where it is said to be one
  pub run_steps : (turns : List Turn) (w : WorldAt Program) (p : ℕ) → IsForwardRun file turns w → (event : Event)
      → has_step (play_of file) w p event ≡ true
      → (v : WorldAt Program) × (happens (play_of file) w p event ≡ Some v)
  run_steps turns w p run Act has =
      let d = (run_ready turns w p run).1 has in
      (after_event w p w.lanes d.0, ap (option_map (after_event w p w.lanes)) d.1)
  run_steps turns w p run (Deliver q) has = by (w.lanes q p) refl has
    where
      by : (l : List FrameAt) → w.lanes q p ≡ l → is_filled l ≡ true → (v : WorldAt Program) × (happens (play_of file) w p (Deliver q) ≡ Some v)
      by [] is filled = absurd (cc filled)
      by (f ∷ rest) is some = let d = run_front turns w p q f rest run is in (_, d.1.happened)

  pub run_steps_not : (turns : List Turn) (w : WorldAt Program) (p : ℕ) → IsForwardRun file turns w → (event : Event)
      → has_step (play_of file) w p event ≡ false
      → happens (play_of file) w p event ≡ None
  run_steps_not turns w p run Act none = by (acts (play_of file) p (w.nodes p)) refl
    where
      by : (o : Option (Worked Program)) → acts (play_of file) p (w.nodes p) ≡ o → option_map (after_event w p w.lanes) o ≡ None
      by None is = refl
      by (Some done) is = absurd (let ready = (run_ready turns w p run).0 (done, is) in cc (ready, none))
  run_steps_not turns w p run (Deliver q) none = by (w.lanes q p) refl none
    where
      by : (l : List FrameAt) → w.lanes q p ≡ l → is_filled l ≡ false → delivery_of w p q l ≡ None
      by [] is unfilled = refl
      by (f ∷ rest) is some = absurd (cc some)

  -- a drain goes on with a run, to the end of the file
  pub drain_is_at_the_end : (turns more : List Turn) (w last : WorldAt Program) → IsForwardRun file turns w
      → IsDrained (play_of file) (length file.parties) w more last
      → IsForwardRun file (turns ++ more) last × IsQuietAmong (play_of file) (length file.parties) last
      × IsRun file (acts_in (turns ++ more)) (end_of file) × IsOpenKept IsOver binds (length file.parties) last (plain_at (end_of file))
  drain_is_at_the_end turns more w last run drained =
      let goes_on : IsForwardRun file (turns ++ more) last =
      run_joined (play_of file) (forward_start file) w last turns more run
      (drained_is_run (play_of file) (length file.parties) w last more drained) in
      let quiet = drained_is_quiet (play_of file) (length file.parties) w last more drained in
      let end = quiet_run_ends file accepted (turns ++ more) last goes_on quiet in
      (goes_on, quiet, end.0, end.1)

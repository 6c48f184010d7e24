-- One event of a world of forwarders is a step of its world.
use Rattle.std.proofs.Common.{◌≡◌, ℕ, ◌+◌, ◌<◌, ◌^◌, true, false, List, [], ◌∷◌, ◌++◌, append-nil, length, length-append, slice_get, unwrap_or, Some, None, refl, ap, sym, ◌∙◌, subst, arith}
use Rattle.sj_lang.specs.FileAt.{FileAt}
use Rattle.sj_acceptance.specs.Accepted.{IsAccepted}
use Rattle.sj_plain.specs.Plain.{acts_of, party_count, world_at}
use Rattle.sj_plain.proofs.BeginLemmas.{start_same}
use Rattle.sj_semantics.specs.Program.{Program}
use Rattle.sj_semantics.specs.Run.{IsRun, after_acts, end_of}
use Rattle.sj_semantics.specs.World.{World}
use Rattle.sj_rules.specs.Drain.{turn}
use Rattle.sj_rules.specs.Events.{acts_by, acts_in}
use Rattle.sj_rules.specs.Party.{nobody, play_of}
use Rattle.sj_rules.specs.World.{Event, Act, Deliver, Turn}
use Rattle.sj_forward.specs.declared.forwarder_world.ForwarderWorld.{ForwarderWorld}
use Rattle.sj_forward.specs.ForwarderWorld.{IsReached, Steps, forwarders_in, file_in, world_in}
use Rattle.sj_forward.proofs.LawLemmas as laws
use Rattle.sj_forward.proofs.SlotLemmas.{some_same}
use Rattle.sj_forward.proofs.SameLemmas.{end_same, forward_start_same}
use Rattle.sj_forward_rules.specs.Acts.{acts}
use Rattle.sj_forward_rules.specs.Arrivals.{comes}
use Rattle.sj_forward_rules.specs.Drain.{IsDrained, deliveries_by}
use Rattle.sj_forward_rules.specs.Node.{Worked}
use Rattle.sj_forward_rules.specs.Ready.{has_step, is_filled, is_ready, state_at}
use Rattle.sj_forward_rules.specs.Record.{FrameAt}
use Rattle.sj_forward_rules.specs.Start.{IsForwardRun, forward_start}
use Rattle.sj_forward_rules.specs.World.{Run, WorldAt, happens}
use Rattle.sj_forward.proofs.StepLemmas.{acts_more, passed_more, run_more}

module _ (c : ForwarderWorld) (r : IsReached c) where
  abbrev pub file : FileAt
  file = r.accepted.file

  abbrev pub accepted : IsAccepted file
  accepted = r.accepted.accepted

  pub run_of : IsForwardRun file r.turns (world_in c)
  run_of =
      subst (λ (s : WorldAt Program). Run (play_of file) s r.turns (world_in c)) (forward_start_same file)
      (subst (λ (f : FileAt). IsForwardRun f r.turns (world_in c)) r.accepted.same r.led.run)

  -- a run of the kept file is one of the file
  pub plain_run_of : (ps : List ℕ) (v : World) → IsRun (file_in c) ps v → IsRun file ps v
  plain_run_of ps v run =
      ap (λ (s : World). after_acts s ps) (sym (start_same file)) ∙ subst (λ (f : FileAt). IsRun f ps v) r.accepted.same run

  play_same : play_of (file_in c) ≡ play_of file
  play_same = ap play_of r.accepted.same

  -- an event by the rules: what it makes of the programs
  module _ (p : ℕ) (event : Event) (v : WorldAt Program) (step : happens (play_of file) (world_in c) p event ≡ Some v) where
    pub run_on : IsForwardRun file (r.turns ++ turn p event ∷ []) v
    run_on = run_more file (forward_start file) (world_in c) v r.turns p event run_of step

    pub acts_on : acts_in (r.turns ++ turn p event ∷ []) ≡ acts_of c.plain ++ acts_by event p
    acts_on =
        acts_more r.turns (turn p event ∷ []) ∙ ap (λ x. acts_in r.turns ++ x) (append-nil (acts_by event p))
        ∙ ap (λ x. x ++ acts_by event p) (sym r.led.acts)

    pub programs_on : (u : World) → IsRun file (acts_of c.plain ++ acts_by event p) u → (q : ℕ) → (v.nodes q).program ≡ unwrap_or (slice_get u.parties q) nobody
    programs_on u run q =
        laws.same_programs file accepted (r.turns ++ turn p event ∷ []) v run_on u (subst (λ (ps : List ℕ). IsRun file ps u) (sym acts_on) run) q

    -- the plain world can do it
    pub plain_on : (u : World) × IsRun file (acts_of c.plain ++ acts_by event p) u
    plain_on =
        let x = laws.plain_run file accepted (r.turns ++ turn p event ∷ []) v run_on in
        (x.0, subst (λ (ps : List ℕ). IsRun file ps x.0) acts_on x.1)

  -- the world of forwarders went on by the event
  module _ (p : ℕ) (event : Event) (d : ForwarderWorld) (step : happens (play_of file) (world_in c) p event ≡ Some (world_in d)) (kept : file_in d ≡ file_in c)
      (acts : acts_of d.plain ≡ acts_of c.plain ++ acts_by event p) (plain : IsRun (file_in d) (acts_of d.plain) (world_at d.plain))
      (passed : d.passed ≡ c.passed + deliveries_by event) (events : d.events ≡ c.events + 1) (count : length (forwarders_in d) ≡ length (forwarders_in c))
      (parties : party_count d.plain ≡ party_count c.plain) where
    step_here : happens (play_of (file_in c)) (world_in c) p event ≡ Some (world_in d)
    step_here = (λ i. happens (play_same i) (world_in c) p event) ∙ step

    pub steps_so : Steps c p event d
    steps_so = record {
      step = step_here;
      counts = record {
        acts = acts ∙ ap (λ x. acts_of c.plain ++ x) (sym (append-nil (acts_by event p)));
        passed = let n = deliveries_by event in omega (arith, passed);
        events = omega (arith, events);
        file = kept;
      };
    }

    pub reached_so : IsReached d
    reached_so = record {
      accepted = record { file = file; accepted = accepted; same = kept ∙ r.accepted.same };
      turns = r.turns ++ turn p event ∷ [];
      led = record {
        run = subst (λ (f : FileAt). IsForwardRun f (r.turns ++ turn p event ∷ []) (world_in d)) (sym kept)
            (run_more (file_in c) (forward_start (file_in c)) (world_in c) (world_in d) r.turns p event r.led.run step_here);
        acts = acts ∙ sym (acts_on p event (world_in d) step);
        plain = plain;
        passed = let more = passed_more r.turns (turn p event ∷ []) in let n = r.led.passed in omega (arith, passed, more, n);
        events = let more = length-append r.turns (turn p event ∷ []) in let n = r.led.events in omega (arith, events, more, n);
      };
      count = count ∙ r.count ∙ ap (λ f. length f.parties) (sym kept);
      parties = parties ∙ r.parties ∙ ap (λ f. length f.parties) (sym kept);
    }

  -- ---- what the laws say

  pub few_events : c.events < 2 ^ 63
  few_events = let few = laws.few_turns file accepted r.turns (world_in c) run_of in let n = r.led.events in omega (arith, few, n)

  -- a party that isn't ready has no act
  pub idle_there : (p : ℕ) → has_step (play_of (file_in c)) (world_in c) p Act ≡ false → acts (play_of (file_in c)) p ((world_in c).nodes p) ≡ None
  idle_there p none =
      (λ i. acts (play_same i) p ((world_in c).nodes p))
      ∙ laws.unready_rests file accepted r.turns (world_in c) run_of p (ap (λ (f : FileAt). is_ready (state_at (play_of f) ((world_in c).nodes p))) (sym r.accepted.same) ∙ none)

  pub act_there : (p : ℕ) → has_step (play_of (file_in c)) (world_in c) p Act ≡ true → (done : Worked Program) × (acts (play_of file) p ((world_in c).nodes p) ≡ Some done)
  act_there p ready = laws.ready_acts file accepted r.turns (world_in c) run_of p (ap (λ (f : FileAt). is_ready (state_at (play_of f) ((world_in c).nodes p))) (sym r.accepted.same) ∙ ready)

  pub row_there : (p q : ℕ) (f : FrameAt) (rest : List FrameAt) → (world_in c).lanes q p ≡ f ∷ rest → (done : Worked Program) × (comes ((world_in c).nodes p) q f ≡ Some done)
  row_there p q f rest front = laws.front_fits file accepted r.turns (world_in c) run_of p q f rest front

-- a lane without a step is empty
filled : {X : Type 0} (xs : List X) → is_filled xs ≡ false → xs ≡ []
filled [] h = refl
filled (x ∷ xs) h = absurd (cc h)

pub nothing_there : (c : ForwarderWorld) (p q : ℕ) → has_step (play_of (file_in c)) (world_in c) p (Deliver q) ≡ false → (world_in c).lanes q p ≡ []
nothing_there c p q none = filled ((world_in c).lanes q p) none

-- there is a drain from there
pub drains : (c : ForwarderWorld) → IsReached c → (more : List Turn) × (last : WorldAt Program) × IsDrained (play_of (file_in c)) (length (forwarders_in c)) (world_in c) more last
drains c r =
    let d = laws.a_drain (file c r) (accepted c r) r.turns (world_in c) (run_of c r) in
    let parties : length (forwarders_in c) ≡ length (file c r).parties = r.count ∙ ap (λ f. length f.parties) r.accepted.same in (
      d.0,
      d.1,
      subst (λ (f : FileAt). IsDrained (play_of f) (length (forwarders_in c)) (world_in c) d.0 d.1) (sym r.accepted.same)
          (subst (λ (n : ℕ). IsDrained (play_of (file c r)) n (world_in c) d.0 d.1) (sym parties) d.2),
    )

-- what is drained is at the end of the file
pub at_the_end : (c d : ForwarderWorld) (r : IsReached c) (more : List Turn) → IsDrained (play_of (file_in c)) (length (forwarders_in c)) (world_in c) more (world_in d)
    → acts_of d.plain ≡ acts_of c.plain ++ acts_in more → IsRun (file_in d) (acts_of d.plain) (world_at d.plain) → file_in d ≡ file_in c → world_at d.plain ≡ end_of (file_in d)
at_the_end c d r more drained acts run kept =
    let parties : length (forwarders_in c) ≡ length (file c r).parties = r.count ∙ ap (λ f. length f.parties) r.accepted.same in
    let own : IsDrained (play_of (file c r)) (length (file c r).parties) (world_in c) more (world_in d) =
    subst (λ (n : ℕ). IsDrained (play_of (file c r)) n (world_in c) more (world_in d)) parties
    (subst (λ (f : FileAt). IsDrained (play_of f) (length (forwarders_in c)) (world_in c) more (world_in d)) r.accepted.same drained) in
    let ends = (laws.drain_ends (file c r) (accepted c r) r.turns (world_in c) (run_of c r) more (world_in d) own).1 in
    let listed : acts_in (r.turns ++ more) ≡ acts_of d.plain = acts_more r.turns more ∙ ap (λ x. x ++ acts_in more) (sym r.led.acts) ∙ sym acts in
    let here : IsRun (file c r) (acts_of d.plain) (world_at d.plain) = plain_run_of c r (acts_of d.plain) (world_at d.plain) (subst (λ (f : FileAt). IsRun f (acts_of d.plain) (world_at d.plain)) kept run) in
    let there : IsRun (file c r) (acts_of d.plain) (end_of (file c r)) = subst (λ (ps : List ℕ). IsRun (file c r) ps (end_of (file c r))) listed ends in
    some_same (world_at d.plain) (end_of (file c r)) (sym here ∙ there) ∙ sym (ap end_of r.accepted.same ∙ end_same (file c r)) ∙ ap end_of (sym kept)

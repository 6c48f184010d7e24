-- What callers see of a world, by the world of forwarders in it.
use Rattle.std.proofs.Common.{◌≡◌, ℕ, ◌+◌, ◌++◌, List, [], ◌∷◌, length, Some, ap, sym, ◌∙◌, subst, append-nil, option_map, refl, arith}
use Rattle.sj_lang.specs.FileAt.{FileAt}
use Rattle.sj_plain.specs.SharedFile.{without_words}
use Rattle.sj_plain.specs.Plain.{acts_of, world_at}
use Rattle.sj_semantics.specs.Program.{Program}
use Rattle.sj_semantics.specs.Run.{IsRun, end_of}
use Rattle.sj_rules.specs.Events.{acts_by}
use Rattle.sj_rules.specs.Party.{play_of}
use Rattle.sj_rules.specs.World.{Deliver, Event, Turn}
use Rattle.sj_forward.specs.declared.forwarder_world.ForwarderWorld.{ForwarderWorld}
use Rattle.sj_forward.specs.ForwarderWorld.{IsReached, StaysIn, Steps, forwarders_in, file_in, world_in}
use Rattle.sj_forward.specs.Draining.{GoesBy, IsDrained}
use Rattle.sj_forward.specs.Forward.{IsDrainedOf, IsForwarded, StaysAt}
use Rattle.sj_forward.proofs.ForwarderWorldLemmas.{at_the_end, row_there}
use Rattle.sj_forward.proofs.SameLemmas.{end_same}
use Rattle.sj_forward_rules.specs.Drain as drain
use Rattle.sj_forward_rules.specs.Drain.{deliveries_by}
use Rattle.sj_forward_rules.specs.Record.{FrameAt}
use Rattle.sj_forward_rules.specs.Start.{forward_start}
use Rattle.sj_forward_rules.specs.World.{WorldAt, after_event, delivery_of, happens, with_lane}

pub forwarded : (c : ForwarderWorld) → IsReached c → IsForwarded c
forwarded c r = record {
  turns = r.turns;
  run = r.led.run;
  acts = r.led.acts;
  plain_run = subst (λ (ps : List ℕ). IsRun (file_in c) ps (world_at c.plain)) r.led.acts r.led.plain;
  passed = r.led.passed;
  fits = λ p q f rest front.
      let row = row_there c r p q f rest front in
      let w = world_in c in (
        after_event w p (with_lane q p rest w.lanes) row.0,
        ap (delivery_of w p q) front ∙ ap (option_map (after_event w p (with_lane q p rest w.lanes))) row.1,
      );
}

-- ---- a turn

pub step_is : (c d : ForwarderWorld) (p : ℕ) (event : Event) → Steps c p event d → happens (play_of (file_in c)) (world_in c) p event ≡ Some (world_in d)
step_is c d p event t = t.step

pub step_acts : (c d : ForwarderWorld) (p : ℕ) (event : Event) → Steps c p event d → acts_of d.plain ≡ acts_of c.plain ++ acts_by event p
step_acts c d p event t = t.counts.acts ∙ ap (λ x. acts_of c.plain ++ x) (append-nil (acts_by event p))

pub step_passed : (c d : ForwarderWorld) (p : ℕ) (event : Event) → Steps c p event d → d.passed ≡ c.passed + deliveries_by event
step_passed c d p event t = let n = deliveries_by event in let all = t.counts.passed in omega (arith, all)

pub stays_at : (c d : ForwarderWorld) → StaysIn c d → StaysAt c d
stays_at c d s = record { world = s.world; plain_world = s.plain; acts = s.acts; passed = s.passed }

pub parties_there : (c : ForwarderWorld) → IsReached c → length (forwarders_in c) ≡ length (file_in c).parties
parties_there c r = r.count

-- ---- a drain

pub drained_end : (c d : ForwarderWorld) → IsReached c → IsReached d → file_in d ≡ file_in c → GoesBy (IsDrained c (length (forwarders_in c))) c d → world_at d.plain ≡ end_of (file_in d)
drained_end c d r reached kept goes = at_the_end c d r goes.turns goes.by goes.counts.acts reached.led.plain kept

pub drained_of : (file : FileAt) (c d : ForwarderWorld) → file_in c ≡ without_words file → length (forwarders_in c) ≡ length (file_in c).parties → world_in c ≡ forward_start file → c.passed ≡ 0
    → GoesBy (IsDrained c (length (forwarders_in c))) c d → world_at d.plain ≡ end_of (file_in d) → file_in d ≡ file_in c → IsDrainedOf file d
drained_of file c d kept count start none goes end same = record {
  turns = goes.turns;
  drained =
      subst (λ (w : WorldAt Program). drain.IsDrained (play_of file) (length file.parties) w goes.turns (world_in d)) start
      (subst (λ (n : ℕ). drain.IsDrained (play_of file) n (world_in c) goes.turns (world_in d)) (count ∙ ap (λ f. length f.parties) kept)
      (subst (λ (f : FileAt). drain.IsDrained (play_of f) (length (forwarders_in c)) (world_in c) goes.turns (world_in d)) kept goes.by));
  passed = let all = goes.counts.passed in omega (arith, all, none);
  end = end ∙ ap end_of (same ∙ kept) ∙ end_same file;
}

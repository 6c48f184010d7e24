-- Worlds of forwarders that contracts see as before.
use Rattle.std.proofs.Common.{◌≡◌, ◌≢◌, ℕ, List, length, slice_get, unwrap_or, Option, Some, None, refl, ap, sym, ◌∙◌, subst, inl, inr}
use Rattle.std.proofs.Math.ListN.{set}
use Rattle.std.proofs.lemmas.Bool.{cases_eq}
use Rattle.std.proofs.lemmas.List.{length-set}
use Rattle.std.proofs.lemmas.Option.{slice_get_within}
use Rattle.sj_lang.specs.FileAt.{FileAt}
use Rattle.sj_plain.specs.declared.plain.Plain.{Plain}
use Rattle.sj_plain.specs.Plain.{acts_of, kept_file, party_count, world_at}
use Rattle.sj_semantics.specs.Program.{Program}
use Rattle.sj_semantics.specs.Run.{IsRun}
use Rattle.sj_semantics.specs.World.{World}
use Rattle.sj_rules.specs.Party.{nobody}
use Rattle.sj_rules.specs.World.{Turn}
use Rattle.sj_forward.specs.declared.forwarder_world.ForwarderWorld.{ForwarderWorld}
use Rattle.sj_forward.specs.declared.forwarder.Forwarder.{Forwarder}
use Rattle.sj_forward.specs.ForwarderWorld.{IsLedBy, IsReached, PlainStays, StaysIn, forwarders_in, file_in, lane_or, node_or, program_in, world_by, world_in}
use Rattle.sj_forward.specs.Forwarder.{ForwarderStays}
use Rattle.sj_offers.proofs.SetLemmas.{set_here, set_there}
use Rattle.sj_forward_rules.specs.Start.{IsForwardRun, first_node}
use Rattle.sj_forward_rules.specs.World.{WorldAt}

-- a world whose forwarders and plain world are as before
pub world_rests : (plain mid : Plain) (forwarders : List Forwarder) (p : ℕ) (old new : Forwarder) → PlainStays plain mid → slice_get forwarders p ≡ Some old → ForwarderStays old new
    → world_by mid (set forwarders p new) ≡ world_by plain forwarders
world_rests plain mid forwarders p old new same there rests = λ i. record { nodes = λ q. node_is q i; lanes = λ from to. lane_is from to i }
  where
    here : slice_get (set forwarders p new) p ≡ Some new
    here = set_here forwarders p new (slice_get_within forwarders p old there)

    program_is : (q : ℕ) → program_in mid q ≡ program_in plain q
    program_is q = ap (λ (w : World). unwrap_or (slice_get w.parties q) nobody) same.world

    node_is : (q : ℕ) → node_or (program_in mid q) (first_node (kept_file mid) q) (slice_get (set forwarders p new) q) ≡ node_or (program_in plain q) (first_node (kept_file plain) q) (slice_get forwarders q)
    node_is q =
        (λ i. node_or (program_is q i) (first_node (same.file i) q) (slice_get (set forwarders p new) q))
        ∙ elim (cases_eq q p) [
          | inl is ↦
              rw is
              (ap (node_or (program_in plain p) (first_node (kept_file plain) p)) here ∙ rests.node (program_in plain p)
              ∙ sym (ap (node_or (program_in plain p) (first_node (kept_file plain) p)) there))
          | inr other ↦ ap (node_or (program_in plain q) (first_node (kept_file plain) q)) (set_there forwarders p q new other)
        ]

    lane_is : (from to : ℕ) → lane_or (slice_get (set forwarders p new) from) to ≡ lane_or (slice_get forwarders from) to
    lane_is from to =
        elim (cases_eq from p) [
          | inl is ↦ rw is (ap (λ o. lane_or o to) here ∙ rests.posts to ∙ sym (ap (λ o. lane_or o to) there))
          | inr other ↦ ap (λ o. lane_or o to) (set_there forwarders p from new other)
        ]

pub plain_still : (plain : Plain) → PlainStays plain plain
plain_still plain = record { world = refl; acts = refl; file = refl }

module _ (c d : ForwarderWorld) (p : ℕ) (old new : Forwarder) (there : slice_get (forwarders_in c) p ≡ Some old) (rests : ForwarderStays old new) (plain : PlainStays c.plain d.plain) (forwarders : forwarders_in d ≡ set (forwarders_in c) p new)
    (passed : d.passed ≡ c.passed) (events : d.events ≡ c.events) where
  world_still : world_in d ≡ world_in c
  world_still = ap (world_by d.plain) forwarders ∙ world_rests c.plain d.plain (forwarders_in c) p old new plain there rests

  pub stays_in : StaysIn c d
  stays_in = record { world = world_still; plain = plain.world; acts = plain.acts; passed = passed; events = events; file = plain.file }

  pub reached_in : IsReached c → party_count d.plain ≡ party_count c.plain → IsReached d
  reached_in r parties = record {
    accepted = record { file = r.accepted.file; accepted = r.accepted.accepted; same = plain.file ∙ r.accepted.same };
    turns = r.turns;
    led = record {
      run = subst (λ (f : FileAt). IsForwardRun f r.turns (world_in d)) (sym plain.file) (subst (λ (w : WorldAt Program). IsForwardRun (file_in c) r.turns w) (sym world_still) r.led.run);
      acts = plain.acts ∙ r.led.acts;
      plain =
          subst (λ (f : FileAt). IsRun f (acts_of d.plain) (world_at d.plain)) (sym plain.file)
          (subst (λ (w : World). IsRun (file_in c) (acts_of d.plain) w) (sym plain.world)
          (subst (λ (ps : List ℕ). IsRun (file_in c) ps (world_at c.plain)) (sym plain.acts) r.led.plain));
      passed = passed ∙ r.led.passed;
      events = events ∙ r.led.events;
    };
    count = ap (λ (ds : List Forwarder). length ds) forwarders ∙ length-set (forwarders_in c) p new ∙ r.count ∙ ap (λ f. length f.parties) (sym plain.file);
    parties = parties ∙ r.parties ∙ ap (λ f. length f.parties) (sym plain.file);
  }

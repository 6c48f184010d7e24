-- A world of forwarders before any event.
use Rattle.std.proofs.Common.{◌≡◌, ℕ, List, [], length, slice_get, unwrap_or, Option, Some, None, refl, ap, sym, ◌∙◌}
use Rattle.sj_acceptance.specs.Accepted.{IsAccepted}
use Rattle.sj_lang.specs.FileAt.{FileAt}
use Rattle.sj_plain.specs.declared.plain.Plain.{Plain}
use Rattle.sj_plain.specs.SharedFile.{without_words}
use Rattle.sj_plain.specs.Plain.{acts_of, kept_file, party_count, world_at}
use Rattle.sj_rules.specs.Party.{nobody}
use Rattle.sj_semantics.specs.Program.{Program}
use Rattle.sj_semantics.specs.Run.{IsRun}
use Rattle.sj_semantics.specs.World.{World, start_of}
use Rattle.sj_forward.specs.declared.forwarder_world.ForwarderWorld.{ForwarderWorld}
use Rattle.sj_forward.specs.declared.forwarder.Forwarder.{Forwarder}
use Rattle.sj_forward.specs.ForwarderWorld.{IsReached, forwarders_in, file_in, lane_or, node_or, world_by}
use Rattle.sj_forward.specs.Starting.{AreFirst}
use Rattle.sj_forward.proofs.ListLemmas.{world_is}
use Rattle.sj_forward.proofs.SameLemmas.{first_same, forward_start_same}
use Rattle.sj_forward_rules.specs.Node.{with_program}
use Rattle.sj_forward_rules.specs.Start.{first_node, forward_start}

-- the world of forwarders before any event
pub world_first : (file : FileAt) (plain : Plain) (forwarders : List Forwarder) → kept_file plain ≡ without_words file → world_at plain ≡ start_of file → AreFirst file (length file.parties) forwarders
    → world_by plain forwarders ≡ forward_start file
world_first file plain forwarders kept start all =
    world_is plain forwarders (forward_start file) node_is lane_is (λ p. ap (λ (w : World). unwrap_or (slice_get w.parties p) nobody) (sym start))
  where
    node_if : (p : ℕ) (g : Program) (o : Option Forwarder) → slice_get forwarders p ≡ o → node_or g (first_node (kept_file plain) p) o ≡ with_program g (first_node file p)
    node_if p g None is = (λ i. with_program g (first_node (kept i) p)) ∙ (λ i. with_program g (first_same file p i))
    node_if p g (Some d) is = (all.each p d is).node g

    node_is : (p : ℕ) (g : Program) → node_or g (first_node (kept_file plain) p) (slice_get forwarders p) ≡ with_program g (first_node file p)
    node_is p g = node_if p g (slice_get forwarders p) refl

    lane_if : (p q : ℕ) (o : Option Forwarder) → slice_get forwarders p ≡ o → lane_or o q ≡ []
    lane_if p q None is = refl
    lane_if p q (Some d) is = (all.each p d is).lanes q

    lane_is : (from to : ℕ) → lane_or (slice_get forwarders from) to ≡ []
    lane_is from to = lane_if from to (slice_get forwarders from) refl

-- no turn leads to it
pub reached_first : (c : ForwarderWorld) (file : FileAt) → IsAccepted file → file_in c ≡ without_words file → world_at c.plain ≡ start_of file → acts_of c.plain ≡ []
    → IsRun (file_in c) (acts_of c.plain) (world_at c.plain) → party_count c.plain ≡ length (file_in c).parties → AreFirst file (length file.parties) (forwarders_in c)
    → c.passed ≡ 0 → c.events ≡ 0 → IsReached c
reached_first c file accepted kept start none run parties first passed events = record {
  accepted = record { file = file; accepted = accepted; same = kept };
  turns = [];
  led = record {
    run = ap forward_start kept ∙ forward_start_same file ∙ sym (world_first file c.plain (forwarders_in c) kept start first);
    acts = none;
    plain = run;
    passed = passed;
    events = events;
  };
  count = first.count ∙ ap (λ (f : FileAt). length f.parties) (sym kept);
  parties = parties;
}

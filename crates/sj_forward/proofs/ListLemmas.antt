-- The world of forwarders in a list, and what it is where one forwarder is another.
use Rattle.std.proofs.Common.{◌≡◌, ℕ, ◌<◌, ◌==◌, if◌then◌else◌, List, ◌++◌, length, slice_get, Option, Some, None, refl, ap, sym, ◌∙◌, inl, inr}
use Rattle.std.proofs.Math.ListN.{set}
use Rattle.std.proofs.lemmas.Bool.{cases_eq}
use Rattle.std.proofs.lemmas.Option.{slice_get_within}
use Rattle.sj_plain.specs.declared.plain.Plain.{Plain}
use Rattle.sj_plain.specs.Plain.{kept_file}
use Rattle.sj_semantics.specs.Program.{Program}
use Rattle.sj_forward.specs.declared.forwarder.Forwarder.{Forwarder}
use Rattle.sj_forward.specs.ForwarderWorld.{lane_or, node_or, program_in, world_by}
use Rattle.sj_forward.specs.Forwarder.{Does}
use Rattle.sj_offers.proofs.SetLemmas.{set_here, set_there}
use Rattle.sj_forward.proofs.SlotLemmas.{one_other, one_same}
use Rattle.sj_forward_rules.specs.Node.{NodeAt, Worked, with_program}
use Rattle.sj_forward_rules.specs.Start.{first_node}
use Rattle.sj_forward_rules.specs.World.{WorldAt, frames_for}

-- a node with another program
renamed : (g k : Program) (first : NodeAt Program) (o : Option Forwarder) → node_or g first o ≡ with_program g (node_or k first o)
renamed g k first None = refl
renamed g k first (Some d) = refl

pub program_is : (g : Program) (first : NodeAt Program) (o : Option Forwarder) → (node_or g first o).program ≡ g
program_is g first None = refl
program_is g first (Some d) = refl

-- nodes that are the same but for programs, lanes, and programs
pub world_is : (plain : Plain) (forwarders : List Forwarder) (w : WorldAt Program) → ((p : ℕ) (g : Program) → node_or g (first_node (kept_file plain) p) (slice_get forwarders p) ≡ with_program g (w.nodes p))
    → ((from to : ℕ) → lane_or (slice_get forwarders from) to ≡ w.lanes from to) → ((p : ℕ) → (w.nodes p).program ≡ program_in plain p) → world_by plain forwarders ≡ w
world_is plain forwarders w nodes lanes programs = λ i. record { nodes = λ p. node_is p i; lanes = λ from to. lanes from to i }
  where
    node_is : (p : ℕ) → node_or (program_in plain p) (first_node (kept_file plain) p) (slice_get forwarders p) ≡ w.nodes p
    node_is p = nodes p (program_in plain p) ∙ ap (λ g. with_program g (w.nodes p)) (sym (programs p))

module _ (plain : Plain) (forwarders : List Forwarder) (p : ℕ) (old new : Forwarder) (there : slice_get forwarders p ≡ Some old) where
  within : p < length forwarders
  within = slice_get_within forwarders p old there

  -- the nodes where a forwarder is another
  pub nodes_after : (done : Worked Program) → Does old done new → (q : ℕ) (g : Program)
      → node_or g (first_node (kept_file plain) q) (slice_get (set forwarders p new) q) ≡ with_program g (if q == p then done.node else (world_by plain forwarders).nodes q)
  nodes_after done does q g =
      elim (cases_eq q p) [
        | inl same ↦
            rw (same, one_same p)
            (ap (node_or g (first_node (kept_file plain) p)) (set_here forwarders p new within) ∙ ap (with_program g) does.node)
        | inr other ↦
            rw (one_other q p other)
            (ap (node_or g (first_node (kept_file plain) q)) (set_there forwarders p q new other)
            ∙ renamed g (program_in plain q) (first_node (kept_file plain) q) (slice_get forwarders q))
      ]

  -- the lanes
  pub lanes_after : (done : Worked Program) → Does old done new → (from to : ℕ)
      → lane_or (slice_get (set forwarders p new) from) to
      ≡ (if from == p then (world_by plain forwarders).lanes from to ++ frames_for to done.posts else (world_by plain forwarders).lanes from to)
  lanes_after done does from to =
      elim (cases_eq from p) [
        | inl same ↦
            rw (same, one_same p)
            (ap (λ o. lane_or o to) (set_here forwarders p new within) ∙ does.posts to
            ∙ ap (λ o. lane_or o to ++ frames_for to done.posts) (sym there))
        | inr other ↦ rw (one_other from p other) (ap (λ o. lane_or o to) (set_there forwarders p from new other))
      ]

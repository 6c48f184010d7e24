-- A frame that was refused is put back, or none was there: all is as before.
use Rattle.std.proofs.Common.{◌≡◌, ◌≢◌, ℕ, List, [], ◌∷◌, map, max, slice_get, Some, None, Result, Err, ap, sym, ◌∙◌, inl, inr}
use Rattle.std.proofs.Math.ListN.{set}
use Rattle.std.proofs.lemmas.Bool.Decides.{eqb_tells}
use Rattle.sj_lang.specs.Place.{Place}
use Rattle.sj_lang.specs.FileAt.{FileAt}
use Rattle.sj_semantics.specs.Program.{Program}
use Rattle.sj_table.specs.Spots.{place_in}
use Rattle.sj_end.specs.Views.{frame_at}
use Rattle.sj_end.specs.declared.frames.Frame.{Frame}
use Rattle.sj_rules.specs.Frames.{FrameAt}
use Rattle.sj_rules.specs.Mapped.{frame_with}
use Rattle.sj_rules.specs.Start.{first_node}
use Rattle.sj_rules.specs.Party.{play_of}
use Rattle.sj_rules.specs.World as world
use Rattle.sj_rules.specs.World.{WorldAt, delivery_of, happens, with_lane}
use Rattle.sj_node.specs.declared.node.Node.{Node}
use Rattle.sj_node.specs.Node.{Stays, is_refused, outbox_of}
use Rattle.sj_node.specs.declared.refusal.DeliverRefusal.{DeliverRefusal}
use Rattle.sj_node.specs.declared.refusal.DeliverRefusal.TheVariants as refusals
use Rattle.sj_core.specs.declared.refusal.StepRefusal.{StepRefusal}
use Rattle.sj_core.specs.declared.refusal.StepRefusal.TheVariants as steps
use Rattle.sj_node.specs.Outs.{waiting_in}
use Rattle.sj_node.specs.Reading.{TakesOut, outs_of, table_of}
use Rattle.sj_core.specs.Nodes.{AreSeated, NodesStay, box_or, node_or, world_by}
use Rattle.sj_core.proofs.DeliverLemmas as taken
use Rattle.sj_core.proofs.DeliverLemmas.{frame_by}
use Rattle.sj_core.proofs.NodesLemmas.{seen, seen_same, still_seated}

module _ (file : FileAt) (nodes : List Node) (p q : ℕ) (giver short : Node) (f : Frame) (seats : AreSeated file nodes) (there : slice_get nodes q ≡ Some giver)
    (front : waiting_in (outs_of giver) p ≡ frame_at f ∷ waiting_in (outs_of short) p) (others : (to : ℕ) → (to ≡ p → ⊥) → waiting_in (outs_of short) to ≡ waiting_in (outs_of giver) to)
    (rest : TakesOut giver short) where
  abbrev w : WorldAt Place Program
  w = world_by file nodes

  -- the lane without its front
  abbrev lanes_after : ℕ → ℕ → List (FrameAt Place)
  lanes_after = with_lane q p (outbox_of short p) w.lanes

  popped : record { nodes = w.nodes; lanes = lanes_after } ≡ world_by file (set nodes q short)
  popped = taken.popped file nodes p q giver short f seats there front others rest

  abbrev still : AreSeated file (set nodes q short)
  still = taken.still file nodes p q giver short f seats there front others rest

  lane_is : w.lanes q p ≡ frame_by seats.table f ∷ outbox_of short p
  lane_is = taken.lane_is file nodes p q giver short f seats there front others rest

  short_box : (to : ℕ) → to ≢ p → outbox_of short to ≡ outbox_of giver to
  short_box to apart = taken.short_box file nodes p q giver short f seats there front others rest to apart

  own_lane : (to : ℕ) → lanes_after q to ≡ outbox_of short to
  own_lane to = taken.own_lane file nodes p q giver short f seats there front others rest to

  other_lane : (from to : ℕ) → from ≢ q → lanes_after from to ≡ w.lanes from to
  other_lane from to apart = taken.other_lane file nodes p q giver short f seats there front others rest from to apart

  -- the frame was refused, and is put back
  module _ (old new : Node) (here : slice_get (set nodes q short) p ≡ Some old) (stays : Stays old new)
      (back last : Node) (again : slice_get (set (set nodes q short) p new) q ≡ Some back) (put : waiting_in (outs_of last) p ≡ frame_at f ∷ waiting_in (outs_of back) p)
      (kept : (to : ℕ) → (to ≡ p → ⊥) → waiting_in (outs_of last) to ≡ waiting_in (outs_of back) to) (same : TakesOut back last) where
    after_refusal : record { nodes = w.nodes; lanes = lanes_after } ≡ world_by file (set (set nodes q short) p new)
    after_refusal = popped ∙ sym (seen_same file (set nodes q short) p old new here stays.node stays.posts)

    seats_then : AreSeated file (set (set nodes q short) p new)
    seats_then = still_seated file (set nodes q short) p old new here still stays.party stays.parties stays.table stays.connects stays.log

    over : table_of last ≡ seats.table
    over = same.table ∙ ((still_seated file (set nodes q short) p old new here still stays.party stays.parties stays.table stays.connects stays.log).each q back again).table

    back_box : (to : ℕ) → outbox_of back to ≡ lanes_after q to
    back_box to = sym (ap (λ o. box_or o to) again) ∙ sym (λ i. (after_refusal i).lanes q to)

    lane_then : (to : ℕ) → w.lanes q to ≡ outbox_of last to
    lane_then to =
        elim (eqb_tells to p) [
          | inl t ↦
              ap (w.lanes q) t.1 ∙ lane_is ∙ (λ i. frame_by (sym over i) f ∷ (sym (own_lane p) ∙ sym (back_box p)) i)
              ∙ (λ i. frame_by last.table f ∷ map (frame_with (place_in (sym same.table i))) (waiting_in (outs_of back) p))
              ∙ ap (map (frame_with (place_in last.table))) (sym put) ∙ ap (outbox_of last) (sym t.1)
          | inr t ↦
              ap (λ o. box_or o to) there ∙ sym (short_box to t.1) ∙ sym (own_lane to) ∙ sym (back_box to)
              ∙ (λ i. map (frame_with (place_in (sym same.table i))) (sym (kept to t.1) i))
        ]

    pub put_back : NodesStay file nodes (set (set (set nodes q short) p new) q last)
    put_back = record {
      world =
          sym (seen file (set (set nodes q short) p new) q back last again w.nodes w.lanes
          ((λ i. (after_refusal i).nodes q) ∙ ap (node_or (first_node file q)) again ∙ sym same.node)
          (λ r apart i. (after_refusal i).nodes r)
          lane_then
          (λ from to apart. sym (other_lane from to apart) ∙ (λ i. (after_refusal i).lanes from to)));
      seats = still_seated file (set (set nodes q short) p new) q back last again seats_then same.party same.parties same.table same.connects same.log;
    }

-- a frame that is unfit
pub refused_so : (r : DeliverRefusal) (A : Type 0) → r ≡ refusals.Unfit → is_refused r A → A
refused_so refusals.Unfit A is h = h
refused_so refusals.NoMemory A is h = absurd (cc is)

-- an empty lane is left as it was
pub nothing_taken : (file : FileAt) (nodes : List Node) (p q : ℕ) (giver short : Node) → AreSeated file nodes → slice_get nodes q ≡ Some giver → waiting_in (outs_of giver) p ≡ [] → waiting_in (outs_of short) p ≡ []
    → ((to : ℕ) → (to ≡ p → ⊥) → waiting_in (outs_of short) to ≡ waiting_in (outs_of giver) to) → TakesOut giver short → NodesStay file nodes (set nodes q short)
nothing_taken file nodes p q giver short seats there none empty others rest = record {
  world = seen_same file nodes q giver short there rest.node (λ to i. map (frame_with (place_in (rest.table i))) (box to i));
  seats = still_seated file nodes q giver short there seats rest.party rest.parties rest.table rest.connects rest.log;
}
  where
    box : (to : ℕ) → waiting_in (outs_of short) to ≡ waiting_in (outs_of giver) to
    box to = elim (eqb_tells to p) [ inl t ↦ ap (waiting_in (outs_of short)) t.1 ∙ empty ∙ sym none ∙ ap (waiting_in (outs_of giver)) (sym t.1) | inr t ↦ others to t.1 ]

-- nothing comes out of an empty lane
pub no_front : (file : FileAt) (nodes : List Node) (p q : ℕ) (giver : Node) → slice_get nodes q ≡ Some giver → waiting_in (outs_of giver) p ≡ [] → happens (play_of file) max (world_by file nodes) p (world.Deliver q) ≡ None
no_front file nodes p q giver there none =
    ap (delivery_of (play_of file) max (world_by file nodes) p q) (ap (λ o. box_or o p) there ∙ ap (map (frame_with (place_in giver.table))) none)

-- out of memory isn't an answer that the event is illegal
pub no_memory_is : {T : Type 0} → (A : Type 0) (r : StepRefusal) → r ≡ steps.NoMemory → ◌≡◌ {A = Result T StepRefusal} (Err r) (Err steps.NoStep) → A
no_memory_is A r is said = let it : steps.NoMemory ≡ steps.NoStep = (let e : r ≡ steps.NoStep = cc said in sym is ∙ e) in absurd (cc it)

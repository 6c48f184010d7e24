-- A frame is taken out of its lane, and delivered or put back.
use Rattle.std.proofs.Common.{◌≡◌, ◌≢◌, ℕ, ◌+◌, ◌<◌, ◌==◌, max, nat_lt, ◌&&◌, if◌then◌else◌, List, [], ◌∷◌, ◌++◌, map, length, slice_get, Option, Some, None, option_map, refl, ap, sym, ◌∙◌, subst, inl, inr, arith}
use Rattle.std.proofs.Math.ListN.{set}
use Rattle.std.proofs.lemmas.Bool.Decides.{eqb_tells}
use Rattle.sj_lang.specs.Place.{Place, done}
use Rattle.sj_lang.specs.FileAt.{FileAt}
use Rattle.sj_semantics.specs.Program.{Program}
use Rattle.sj_table.specs.Spots.{place_in}
use Rattle.sj_table.specs.declared.table.Table.{Table}
use Rattle.sj_end.specs.Views.{body_at, frame_at, note_at}
use Rattle.sj_end.specs.declared.note.Entry.{Entry}
use Rattle.sj_end.specs.declared.note.Event.TheVariants as events
use Rattle.sj_end.specs.declared.frames.Frame.{Frame}
use Rattle.sj_rules.specs.Frames.{FrameAt, frames_for, is_proper, is_within}
use Rattle.sj_rules.specs.Record.{BodyAt, Carry, Fin, Claim, Signal, Ack, Give, Open}
use Rattle.sj_rules.specs.Mapped.{body_with, frame_with}
use Rattle.sj_rules.specs.Node.{NodeAt, arrives, comes_or_opens}
use Rattle.sj_rules.specs.Party.{play_of}
use Rattle.sj_rules.specs.Rows.{Worked}
use Rattle.sj_rules.specs.Start.{first_node}
use Rattle.sj_rules.specs.History.{front_note}
use Rattle.sj_rules.specs.World as world
use Rattle.sj_rules.specs.World.{WorldAt, after_event, delivery_of, happens, with_lane}
use Rattle.sj_node.specs.declared.node.Node.{Node}
use Rattle.sj_node.specs.Node.{Does, clock_of, delivery, log_of, node_at, outbox_of}
use Rattle.sj_node.specs.Outs.{waiting_in}
use Rattle.sj_node.specs.Reading.{TakesEntry, TakesOut, outs_of}
use Rattle.sj_core.specs.Nodes.{AreSeated, Moves, box_or, node_or, world_by}
use Rattle.sj_core.specs.Views.{note_seen}
use Rattle.sj_core.proofs.NodesLemmas.{apart_eqb, node_here, same_eqb, seen, seen_after, still_seated}
use Rattle.sj_core.proofs.NoteLemmas.{body_noted}
use Rattle.sj_core.proofs.StepLemmas.{lined}
use Rattle.sj_core.proofs.TakenLemmas.{DidUnlogged, did_unlogged, entry_is}

-- a frame as the world has it, where its places are looked up in that table
abbrev pub frame_by : Table → Frame → FrameAt Place
frame_by t f = frame_with (place_in t) (frame_at f)

-- the limits look at no place
within_seen : {P R : Type 0} → (n : ℕ) (g : P → R) (b : BodyAt P) → is_within n (body_with g b) ≡ is_within n b
within_seen n g (Carry to conn number taken msg) = refl
within_seen n g (Fin to conn number) = refl
within_seen n g (Claim of) = refl
within_seen n g (Signal to conn party taken) = refl
within_seen n g (Ack of conn) = refl
within_seen n g (Give e resend) = refl
within_seen n g (Open sess) = refl

proper_seen : {P R : Type 0} → (n : ℕ) (g : P → R) (f : FrameAt P) → is_proper n (frame_with g f) ≡ is_proper n f
proper_seen n g f = ap (λ b. nat_lt f.clock 4611686018427387904 && b) (within_seen n g f.body)

module _ (file : FileAt) (nodes : List Node) (p q : ℕ) (giver short : Node) (f : Frame) (seats : AreSeated file nodes) (there : slice_get nodes q ≡ Some giver)
    (front : waiting_in (outs_of giver) p ≡ frame_at f ∷ waiting_in (outs_of short) p) (others : (to : ℕ) → (to ≡ p → ⊥) → waiting_in (outs_of short) to ≡ waiting_in (outs_of giver) to)
    (rest : TakesOut giver short) where
  abbrev pub w : WorldAt Place Program
  w = world_by file nodes

  -- the lane without its front
  abbrev pub lanes_after : ℕ → ℕ → List (FrameAt Place)
  lanes_after = with_lane q p (outbox_of short p) w.lanes

  pub lane_is : w.lanes q p ≡ frame_by seats.table f ∷ outbox_of short p
  lane_is =
      let own = seats.each q giver there in
      ap (λ o. box_or o p) there
      ∙ ap (map (frame_with (place_in giver.table))) front
      ∙ (λ i. frame_by (own.table i) f ∷ map (frame_with (place_in (sym rest.table i))) (waiting_in (outs_of short) p))

  pub short_box : (to : ℕ) → to ≢ p → outbox_of short to ≡ outbox_of giver to
  short_box to apart = λ i. map (frame_with (place_in (rest.table i))) (others to apart i)

  pub own_lane : (to : ℕ) → lanes_after q to ≡ outbox_of short to
  own_lane to =
      ap (λ b. if b && (to == p) then outbox_of short p else w.lanes q to) (same_eqb q)
      ∙ elim (eqb_tells to p) [
        | inl t ↦ ap (λ b. if b then outbox_of short p else w.lanes q to) t.0 ∙ ap (outbox_of short) (sym t.1)
        | inr t ↦ ap (λ b. if b then outbox_of short p else w.lanes q to) t.0 ∙ ap (λ o. box_or o to) there ∙ sym (short_box to t.1)
      ]

  pub other_lane : (from to : ℕ) → from ≢ q → lanes_after from to ≡ w.lanes from to
  other_lane from to apart = ap (λ b. if b && (to == p) then outbox_of short p else w.lanes from to) (apart_eqb from q apart)

  -- once the front is taken out
  pub popped : record { nodes = w.nodes; lanes = lanes_after } ≡ world_by file (set nodes q short)
  popped = seen file nodes q giver short there w.nodes lanes_after (ap (node_or (first_node file q)) there ∙ sym rest.node) (λ r apart. refl) own_lane other_lane

  abbrev pub still : AreSeated file (set nodes q short)
  still = still_seated file nodes q giver short there seats rest.party rest.parties rest.table rest.connects rest.log

  module _ (old new : Node) (here : slice_get (set nodes q short) p ≡ Some old) where
    node_is : w.nodes p ≡ node_at old
    node_is = (λ i. (popped i).nodes p) ∙ ap (node_or (first_node file p)) here

    -- the clock is as it was
    pub clock_is : clock_of old ≡ (w.nodes p).clock
    clock_is = sym (ap (λ n. n.clock) node_is)

    pub low_now : (w.nodes p).clock < 4611686018427387904 → clock_of old < 4611686018427387904
    low_now low = let same = clock_is in omega (arith, same, low)

    -- what arrives by the world's rules is what the node's delivery does
    arrival_is : arrives done (length file.parties) max (w.nodes p) q (frame_by seats.table f) ≡ delivery old q (frame_at f)
    arrival_is =
        let own = still.each p old here in
        (λ i. if proper_seen (length file.parties) (place_in seats.table) (frame_at f) i then comes_or_opens done max (node_is i) q (body_with (place_in (sym own.table i)) (body_at f.body)) else None)
        ∙ (λ i. if is_proper (sym own.parties i) (frame_at f) then comes_or_opens done max (node_at old) q (body_with (place_in old.table) (body_at f.body)) else None)

    -- what arrives by the world's rules is delivered by the node's
    pub not_unfit : (worked : Worked Place (NodeAt Place Program)) → arrives done (length file.parties) max (w.nodes p) q (frame_by seats.table f) ≡ Some worked → delivery old q (frame_at f) ≡ None → ⊥
    not_unfit worked fits none =
        let e : Some worked ≡ None = sym fits ∙ arrival_is ∙ none in
        cc e

    did_deliver : (left : Worked Place (NodeAt Place Program)) → delivery old q (frame_at f) ≡ Some left
        → DidUnlogged old left (max (clock_of old) f.clock + 1) new
        → Moves file nodes p (events.Deliver q) (record { clock = max (clock_of old) f.clock + 1; event = events.Deliver q; note = note_at (body_at f.body) }) (set (set nodes q short) p new)
    did_deliver left row did =
        let play = play_of file in
        let clock = max (clock_of old) f.clock + 1 in
        let own = still.each p old here in
        let came : arrives done (length file.parties) max (w.nodes p) q (frame_by seats.table f) ≡ Some left = arrival_is ∙ row in
        let last = world_by file (set (set nodes q short) p new) in
        let after : after_event w p clock lanes_after left ≡ last =
        (λ i. after_event (popped i) p clock (popped i).lanes left)
        ∙ seen_after file (set nodes q short) p old new here clock (world_by file (set nodes q short)).lanes left did.node
        (λ to. did.posts to ∙ sym (ap (λ o. box_or o to ++ frames_for to clock left.posts) here)) (λ from to apart. refl) in
        let step : happens play max w p (world.Deliver q) ≡ Some last =
        ap (delivery_of play max w p q) lane_is
        ∙ ap (option_map (after_event w p (max (w.nodes p).clock f.clock + 1) lanes_after)) came
        ∙ (λ i. Some (after_event w p (max (node_is i).clock f.clock + 1) lanes_after left))
        ∙ ap Some after in
        record {
          step = step;
          line = lined file w last p clock (world.Deliver q) (note_seen (note_at (body_at f.body))) step
              (ap front_note lane_is ∙ ap Some (body_noted (place_in seats.table) (body_at f.body)))
              (ap (λ n. n.clock) (node_here file (set nodes q short) p old new here ∙ did.node));
          seats = still_seated file (set nodes q short) p old new here still did.party did.parties did.table did.connects did.log;
        }

    -- a delivery, whose entry was taken out of the log
    module _ (mid : Node) (e : Entry) (took : TakesEntry mid new) (taken : log_of mid ≡ log_of new ++ e ∷ []) where
      by_row : (o : Option (Worked Place (NodeAt Place Program))) → delivery old q (frame_at f) ≡ o
          → Does old o (max (clock_of old) f.clock + 1) (events.Deliver q) (note_at (body_at f.body)) mid
          → Moves file nodes p (events.Deliver q) e (set (set nodes q short) p new)
      by_row None row does = absurd does
      by_row (Some left) row did =
          subst (λ (x : Entry). Moves file nodes p (events.Deliver q) x (set (set nodes q short) p new))
          (sym (entry_is old mid new left (max (clock_of old) f.clock + 1) (events.Deliver q) (note_at (body_at f.body)) e did took taken))
          (did_deliver left row (did_unlogged old mid new left (max (clock_of old) f.clock + 1) (events.Deliver q) (note_at (body_at f.body)) e did took taken))

      pub delivered_as : Does old (delivery old q (frame_at f)) (max (clock_of old) f.clock + 1) (events.Deliver q) (note_at (body_at f.body)) mid
          → Moves file nodes p (events.Deliver q) e (set (set nodes q short) p new)
      delivered_as does = by_row (delivery old q (frame_at f)) refl does

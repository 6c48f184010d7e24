-- An act and a delivery, as forwarders and the plain world do them.
use Rattle.std.proofs.Common.{◌≡◌, ℕ, ◌+◌, ◌==◌, ◌&&◌, Bool, true, false, if◌then◌else◌, List, [], ◌∷◌, ◌++◌, append-nil, slice_get, Some, option_map, refl, ap, sym, ◌∙◌, subst, inl, inr}
use Rattle.std.proofs.Math.ListN.{set}
use Rattle.std.proofs.lemmas.Bool.{cases_eq}
use Rattle.std.proofs.lemmas.Option.{slice_get_within}
use Rattle.sj_lang.specs.FileAt.{FileAt}
use Rattle.sj_plain.specs.declared.plain.Plain.{Plain}
use Rattle.sj_plain.specs.Plain.{acts_of, kept_file, world_at}
use Rattle.sj_semantics.specs.Program.{Program}
use Rattle.sj_semantics.specs.Run.{IsRun}
use Rattle.sj_rules.specs.Party.{play_of}
use Rattle.sj_rules.specs.World.{Act, Deliver}
use Rattle.sj_forward.specs.declared.forwarder_world.ForwarderWorld.{ForwarderWorld}
use Rattle.sj_forward.specs.declared.forwarder.Forwarder.{Forwarder}
use Rattle.sj_forward.specs.ForwarderWorld.{IsReached, PlainActs, forwarders_in, file_in, lane_or, node_or, world_by, world_in}
use Rattle.sj_forward.specs.Forwarder.{Does, forwarder_at, lane_of}
use Rattle.sj_forward.specs.Outs.{DropsFront}
use Rattle.sj_forward.proofs.ForwarderWorldLemmas.{file, plain_run_of, programs_on}
use Rattle.sj_forward.proofs.ListLemmas.{lanes_after, nodes_after, world_is}
use Rattle.sj_offers.proofs.SetLemmas.{set_here, set_there}
use Rattle.sj_forward.proofs.SlotLemmas.{one_other, one_same}
use Rattle.sj_forward_rules.specs.Acts.{acts}
use Rattle.sj_forward_rules.specs.Arrivals.{comes}
use Rattle.sj_forward_rules.specs.Node.{Worked}
use Rattle.sj_forward_rules.specs.Record.{FrameAt}
use Rattle.sj_forward_rules.specs.Start.{first_node}
use Rattle.sj_forward_rules.specs.World.{WorldAt, after_event, delivery_of, frames_for, happens, with_lane}

module _ (c : ForwarderWorld) (r : IsReached c) (p : ℕ) (old new : Forwarder) (there : slice_get (forwarders_in c) p ≡ Some old) (done : Worked Program) (does : Does old done new) where
  abbrev w : WorldAt Program
  w = world_in c

  -- ---- an act

  module _ (row : acts (play_of (file c r)) p (w.nodes p) ≡ Some done) (plain : Plain) (acted : PlainActs p c.plain plain) where
    abbrev after_act : WorldAt Program
    after_act = after_event w p w.lanes done

    pub act_step : happens (play_of (file c r)) w p Act ≡ Some after_act
    act_step = ap (option_map (after_event w p w.lanes)) row

    plain_goes : IsRun (file c r) (acts_of c.plain ++ p ∷ []) (world_at plain)
    plain_goes =
        plain_run_of c r (acts_of c.plain ++ p ∷ []) (world_at plain)
        (subst (λ (f : FileAt). IsRun f (acts_of c.plain ++ p ∷ []) (world_at plain)) acted.file
        (subst (λ (ps : List ℕ). IsRun (kept_file plain) ps (world_at plain)) acted.acts acted.run))

    act_world : world_by plain (set (forwarders_in c) p new) ≡ after_act
    act_world =
        world_is plain (set (forwarders_in c) p new) after_act
        (λ q g. (λ i. node_or g (first_node (acted.file i) q) (slice_get (set (forwarders_in c) p new) q)) ∙ nodes_after c.plain (forwarders_in c) p old new there done does q g)
        (lanes_after c.plain (forwarders_in c) p old new there done does)
        (programs_on c r p Act after_act act_step (world_at plain) plain_goes)

    -- the act is a step, to the world of the forwarders and the plain world
    pub acted_so : happens (play_of (file c r)) w p Act ≡ Some (world_by plain (set (forwarders_in c) p new))
    acted_so = act_step ∙ ap Some (sym act_world)

  -- ---- a delivery

  module _ (q : ℕ) (f : FrameAt) (rest : List FrameAt) (front : w.lanes q p ≡ f ∷ rest) (row : comes (w.nodes p) q f ≡ Some done) (giver short : Forwarder)
      (here : slice_get (set (forwarders_in c) p new) q ≡ Some giver) (same : (g : Program) → forwarder_at g short ≡ forwarder_at g giver) (drops : DropsFront giver.outs.items p short.outs.items) where
    abbrev after_coming : WorldAt Program
    after_coming = after_event w p (with_lane q p rest w.lanes) done

    pub coming_step : happens (play_of (file c r)) w p (Deliver q) ≡ Some after_coming
    coming_step = ap (delivery_of w p q) front ∙ ap (option_map (after_event w p (with_lane q p rest w.lanes))) row

    plain_rests : IsRun (file c r) (acts_of c.plain ++ []) (world_at c.plain)
    plain_rests = subst (λ (ps : List ℕ). IsRun (file c r) ps (world_at c.plain)) (sym (append-nil (acts_of c.plain))) (plain_run_of c r (acts_of c.plain) (world_at c.plain) r.led.plain)

    seen_same : (x : ℕ) (g : Program) → node_or g (first_node (file_in c) x) (slice_get (set (set (forwarders_in c) p new) q short) x) ≡ node_or g (first_node (file_in c) x) (slice_get (set (forwarders_in c) p new) x)
    seen_same x g =
        elim (cases_eq x q) [
          | inl is ↦
              rw is
              (ap (node_or g (first_node (file_in c) q)) (set_here (set (forwarders_in c) p new) q short (slice_get_within (set (forwarders_in c) p new) q giver here))
              ∙ same g ∙ sym (ap (node_or g (first_node (file_in c) q)) here))
          | inr other ↦ ap (node_or g (first_node (file_in c) x)) (set_there (set (forwarders_in c) p new) q x short other)
        ]

    -- a lane before the front leaves
    mid : ℕ → ℕ → List FrameAt
    mid from to = if from == p then w.lanes from to ++ frames_for to done.posts else w.lanes from to

    tails : {X : Type 0} (x y : X) (xs ys : List X) → x ∷ xs ≡ y ∷ ys → xs ≡ ys
    tails x y xs ys e = cc e

    with_posts : (b : Bool) (to : ℕ) (fs : List FrameAt) → List FrameAt
    with_posts b to fs = if b then fs ++ frames_for to done.posts else fs

    front_first : (b : Bool) → (if b then (f ∷ rest) ++ frames_for p done.posts else (f ∷ rest)) ≡ f ∷ (if b then rest ++ frames_for p done.posts else rest)
    front_first true = refl
    front_first false = refl

    giver_lane : (to : ℕ) → lane_of giver to ≡ (if q == p then w.lanes q to ++ frames_for to done.posts else w.lanes q to)
    giver_lane to = ap (λ o. lane_or o to) (sym here) ∙ lanes_after c.plain (forwarders_in c) p old new there done does q to

    front_gone : lane_of short p ≡ (if q == p then rest ++ frames_for p done.posts else rest)
    front_gone =
        sym
        (tails f drops.front (if q == p then rest ++ frames_for p done.posts else rest) (lane_of short p)
        (sym (front_first (q == p)) ∙ ap (λ (fs : List FrameAt). if q == p then fs ++ frames_for p done.posts else fs) (sym front) ∙ sym (giver_lane p) ∙ drops.was))

    lane_is : (from to : ℕ) → lane_or (slice_get (set (set (forwarders_in c) p new) q short) from) to ≡ after_coming.lanes from to
    lane_is from to =
        elim (cases_eq from q) [
          | inr other ↦
              ap (λ o. lane_or o to) (set_there (set (forwarders_in c) p new) q from short other)
              ∙ lanes_after c.plain (forwarders_in c) p old new there done does from to
              ∙ (λ i. if from == p then (if sym (one_other from q other) i && (to == p) then rest else w.lanes from to) ++ frames_for to done.posts else (if sym (one_other from q other) i && (to == p) then rest else w.lanes from to))
          | inl is ↦
              rw is
              (ap (λ o. lane_or o to) (set_here (set (forwarders_in c) p new) q short (slice_get_within (set (forwarders_in c) p new) q giver here))
              ∙ elim (cases_eq to p) [
                | inr other ↦
                    drops.others to other ∙ giver_lane to
                    ∙ (λ i. if q == p then (if sym (one_same q) i && sym (one_other to p other) i then rest else w.lanes q to) ++ frames_for to done.posts else (if sym (one_same q) i && sym (one_other to p other) i then rest else w.lanes q to))
                | inl both ↦
                    rw both
                    (front_gone
                    ∙ (λ i. if q == p then (if sym (one_same q) i && sym (one_same p) i then rest else w.lanes q p) ++ frames_for p done.posts else (if sym (one_same q) i && sym (one_same p) i then rest else w.lanes q p)))
              ])
        ]

    came_world : world_by c.plain (set (set (forwarders_in c) p new) q short) ≡ after_coming
    came_world =
        world_is c.plain (set (set (forwarders_in c) p new) q short) after_coming (λ x g. seen_same x g ∙ nodes_after c.plain (forwarders_in c) p old new there done does x g) lane_is
        (programs_on c r p (Deliver q) after_coming coming_step (world_at c.plain) plain_rests)

    -- the delivery is a step, to the world of the forwarders
    pub came_so : happens (play_of (file c r)) w p (Deliver q) ≡ Some (world_by c.plain (set (set (forwarders_in c) p new) q short))
    came_so = coming_step ∙ ap Some (sym came_world)

-- A turn of a world of forwarders as a whole: it is a step, after which the world of forwarders is one to
-- which turns lead.
use Rattle.std.proofs.Common.{◌≡◌, ◌≢◌, ℕ, ◌+◌, ◌<◌, ◌≤◌, ◌^◌, ◌==◌, Bool, true, false, if◌then◌else◌, List, [], ◌∷◌, ◌++◌, append-nil, length, slice_get, option_map, Some, None, refl, ap, sym, ◌∙◌, subst, arith}
use Rattle.std.proofs.Math.ListN.{set}
use Rattle.std.proofs.lemmas.List.{length-set}
use Rattle.sj_plain.specs.declared.plain.Plain.{Plain}
use Rattle.sj_plain.specs.Plain.{acts_of, kept_file, party_count, world_at}
use Rattle.sj_semantics.specs.Program.{Program}
use Rattle.sj_semantics.specs.Run.{IsRun}
use Rattle.sj_semantics.specs.declared.Want.{Want}
use Rattle.sj_rules.specs.Events.{acts_by}
use Rattle.sj_rules.specs.Party.{play_of}
use Rattle.sj_rules.specs.World.{Act, Deliver, Event, Turn}
use Rattle.sj_forward.specs.declared.forwarder_world.ForwarderWorld.{ForwarderWorld}
use Rattle.sj_forward.specs.declared.forwarder.Forwarder.{Forwarder}
use Rattle.sj_forward.specs.declared.frame.ForwardFrame.{ForwardFrame}
use Rattle.sj_forward.specs.ForwarderWorld.{IsReached, PlainActs, PlainStays, Steps, Wants, forwarders_in, file_in, lane_or, node_or, program_in, world_by, world_in}
use Rattle.sj_forward.specs.Forwarder.{Acts, FrameComes, Does, HasRow, ForwarderStays, forwarder_at, lane_of}
use Rattle.sj_forward.specs.Outs.{DropsFront, lane_in}
use Rattle.sj_forward.specs.Views.{frame_at}
use Rattle.sj_forward.proofs.ForwarderWorldLemmas.{few_events, file, reached_so, row_there, steps_so}
use Rattle.sj_forward.proofs.ListLemmas.{lanes_after}
use Rattle.sj_forward.proofs.ForwarderLemmas.{did}
use Rattle.sj_offers.proofs.SetLemmas.{set_here}
use Rattle.sj_forward.proofs.EventLemmas.{acted_so, came_so}
use Rattle.sj_forward.proofs.ReadyLemmas.{does_act, done_there}
use Rattle.sj_forward.proofs.SlotLemmas.{some_same}
use Rattle.sj_forward_rules.specs.Arrivals.{comes}
use Rattle.sj_forward_rules.specs.Drain.{deliveries_by, passed_in}
use Rattle.sj_forward_rules.specs.Node.{NodeAt, Worked}
use Rattle.sj_forward_rules.specs.Ready.{has_step, is_filled}
use Rattle.sj_forward_rules.specs.Record.{FrameAt}
use Rattle.sj_forward_rules.specs.Start.{first_node}
use Rattle.sj_forward_rules.specs.World.{frames_for, happens}

-- a party is one of the plain world
pub plain_party : (c : ForwarderWorld) → IsReached c → (p : ℕ) → p < length (forwarders_in c) → p < party_count c.plain
plain_party c r p there = subst (λ (n : ℕ). p < n) (r.count ∙ sym r.parties) there

pub still_parties : (c : ForwarderWorld) → IsReached c → (plain : Plain) → PlainStays c.plain plain → party_count plain ≡ length (kept_file plain).parties → party_count plain ≡ party_count c.plain
still_parties c r plain stays count = count ∙ ap (λ f. length f.parties) stays.file ∙ sym r.parties

-- ---- an act

module _ (c : ForwarderWorld) (r : IsReached c) (p : ℕ) (old mid new : Forwarder) (want : Want) (there : slice_get (forwarders_in c) p ≡ Some old) (wanted : Wants c.plain p want)
    (ready : has_step (play_of (file_in c)) (world_in c) p Act ≡ true) (rests : ForwarderStays old mid) (acts : Acts p want mid new) (d : ForwarderWorld) (plain : PlainActs p c.plain d.plain)
    (forwarders : forwarders_in d ≡ set (forwarders_in c) p new) (passed : d.passed ≡ c.passed) (events : d.events ≡ c.events + 1) where
  act_step : happens (play_of (file c r)) (world_in c) p Act ≡ Some (world_in d)
  act_step =
      let done = done_there c r p old want there wanted ready in
      acted_so c r p old new there done.0 (does_act c r p old want there wanted ready mid new rests acts) done.1 d.plain plain
      ∙ ap (λ (ds : List Forwarder). Some (world_by d.plain ds)) (sym forwarders)

  act_passed : d.passed ≡ c.passed + deliveries_by Act
  act_passed = omega (arith, passed)

  act_count : length (forwarders_in d) ≡ length (forwarders_in c)
  act_count = ap (λ (ds : List Forwarder). length ds) forwarders ∙ length-set (forwarders_in c) p new

  act_parties : party_count d.plain ≡ party_count c.plain
  act_parties = plain.parties ∙ ap (λ f. length f.parties) plain.file ∙ sym r.parties

  pub act_steps : Steps c p Act d
  act_steps = steps_so c r p Act d act_step plain.file plain.acts plain.run act_passed events act_count act_parties

  pub act_reached : IsReached d
  act_reached = reached_so c r p Act d act_step plain.file plain.acts plain.run act_passed events act_count act_parties

-- ---- a delivery

-- a front frame is a step
pub front_steps : (c : ForwarderWorld) (p q : ℕ) (f : FrameAt) (rest : List FrameAt) → (world_in c).lanes q p ≡ f ∷ rest → has_step (play_of (file_in c)) (world_in c) p (Deliver q) ≡ true
front_steps c p q f rest front = ap is_filled front

-- the lane of the party from which it comes, by its forwarder
lane_of_giver : (c : ForwarderWorld) (p q : ℕ) (giver : Forwarder) → slice_get (forwarders_in c) q ≡ Some giver → (world_in c).lanes q p ≡ lane_of giver p
lane_of_giver c p q giver there = ap (λ o. lane_or o p) there

-- a list whose first element is known
front_in : {X : Type 0} (xs : List X) (x : X) → Some x ≡ slice_get xs 0 → (rest : List X) × (xs ≡ x ∷ rest)
front_in [] x h = absurd (cc h)
front_in (y ∷ ys) x h = let same : y ≡ x = sym (some_same x y h) in (ys, ap (λ t. t ∷ ys) same)

-- the front frame
pub front_of_giver : (c : ForwarderWorld) (p q : ℕ) (giver : Forwarder) (f : FrameAt) → slice_get (forwarders_in c) q ≡ Some giver → Some f ≡ slice_get (lane_of giver p) 0
    → (rest : List FrameAt) × ((world_in c).lanes q p ≡ f ∷ rest)
front_of_giver c p q giver f there first = let x = front_in (lane_of giver p) f first in (x.0, lane_of_giver c p q giver there ∙ x.1)

unfilled : {X : Type 0} (xs : List X) → None ≡ slice_get xs 0 → is_filled xs ≡ false
unfilled [] h = refl
unfilled (y ∷ ys) h = absurd (cc h)

-- a delivery with no front frame is illegal
pub empty_lane : (c : ForwarderWorld) (p q : ℕ) (giver : Forwarder) → slice_get (forwarders_in c) q ≡ Some giver → None ≡ slice_get (lane_of giver p) 0
    → has_step (play_of (file_in c)) (world_in c) p (Deliver q) ≡ false
empty_lane c p q giver there none = ap is_filled (lane_of_giver c p q giver there) ∙ unfilled (lane_of giver p) none

longer : {X : Type 0} (x : X) (rest more : List X) → 0 < length ((x ∷ rest) ++ more)
longer x rest more = omega arith

module _ (c : ForwarderWorld) (r : IsReached c) (p q : ℕ) (old : Forwarder) (f : FrameAt) (rest : List FrameAt) (there : slice_get (forwarders_in c) p ≡ Some old) (front : (world_in c).lanes q p ≡ f ∷ rest) where
  own_row : (done : Worked Program) × (comes (forwarder_at (program_in c.plain p) old) q f ≡ Some done)
  own_row =
      let row = row_there c r p q f rest front in
      (row.0, ap (λ (n : NodeAt Program). comes n q f) (sym (ap (node_or (program_in c.plain p) (first_node (file_in c) p)) there)) ∙ row.1)

  -- the frame fits the party's forwarder
  pub has_row : HasRow q f old
  has_row = record { program = program_in c.plain p; done = own_row.0; row = own_row.1 }

  module _ (new : Forwarder) (came : FrameComes q f old new) where
    does : Does old own_row.0 new
    does = did old new (comes (forwarder_at (program_in c.plain p) old) q f) own_row.0 own_row.1 (came (program_in c.plain p))

    module _ (giver : Forwarder) (here : slice_get (set (forwarders_in c) p new) q ≡ Some giver) where
      giver_lane : lane_of giver p ≡ (if q == p then (f ∷ rest) ++ frames_for p own_row.0.posts else (f ∷ rest))
      giver_lane =
          ap (λ o. lane_or o p) (sym here) ∙ lanes_after c.plain (forwarders_in c) p old new there own_row.0 does q p
          ∙ ap (λ (fs : List FrameAt). if q == p then fs ++ frames_for p own_row.0.posts else fs) front

      -- the frame is in the lane until it is dropped
      pub lane_filled : 0 < length (lane_of giver p)
      lane_filled = subst (λ (fs : List FrameAt). 0 < length fs) (sym giver_lane) (by (q == p))
        where
          by : (b : Bool) → 0 < length (if b then (f ∷ rest) ++ frames_for p own_row.0.posts else (f ∷ rest))
          by true = longer f rest (frames_for p own_row.0.posts)
          by false = omega arith

      module _ (short : Forwarder) (same : (g : Program) → forwarder_at g short ≡ forwarder_at g giver) (drops : DropsFront giver.outs.items p short.outs.items) (d : ForwarderWorld) (plain : d.plain ≡ c.plain)
          (forwarders : forwarders_in d ≡ set (set (forwarders_in c) p new) q short) (passed : d.passed ≡ c.passed + 1) (events : d.events ≡ c.events + 1) where
        came_step : happens (play_of (file c r)) (world_in c) p (Deliver q) ≡ Some (world_in d)
        unfolding own_row
        came_step =
            came_so c r p old new there own_row.0 does q f rest front (row_there c r p q f rest front).1 giver short here same drops
            ∙ (λ i. Some (world_by (sym plain i) (sym forwarders i)))

        came_acts : acts_of d.plain ≡ acts_of c.plain ++ acts_by (Deliver q) p
        came_acts = ap acts_of plain ∙ sym (append-nil (acts_of c.plain))

        came_run : IsRun (file_in d) (acts_of d.plain) (world_at d.plain)
        came_run = subst (λ (x : Plain). IsRun (kept_file x) (acts_of x) (world_at x)) (sym plain) r.led.plain

        came_count : length (forwarders_in d) ≡ length (forwarders_in c)
        came_count = ap (λ (ds : List Forwarder). length ds) forwarders ∙ length-set (set (forwarders_in c) p new) q short ∙ length-set (forwarders_in c) p new

        pub came_steps : Steps c p (Deliver q) d
        came_steps = steps_so c r p (Deliver q) d came_step (ap kept_file plain) came_acts came_run passed events came_count (ap party_count plain)

        pub came_reached : IsReached d
        came_reached = reached_so c r p (Deliver q) d came_step (ap kept_file plain) came_acts came_run passed events came_count (ap party_count plain)

-- ---- counts

passed_few : (ts : List Turn) → passed_in ts ≤ length ts
passed_few [] = omega arith
passed_few (t ∷ ts) = let rest = passed_few ts in let one = by_one t.event in omega (arith, rest, one)
  where
    by_one : (e : Event) → deliveries_by e ≤ 1
    by_one Act = omega arith
    by_one (Deliver q) = omega arith

pub few_passed : (c : ForwarderWorld) → IsReached c → c.passed < 2 ^ 63
few_passed c r =
    let low = few_events c r in
    let some = passed_few r.turns in
    let n = r.led.passed in
    let m = r.led.events in
    omega (arith, low, some, n, m)
